-- What the texts of a run spell, and which fault of them is answered.
use Rattle.std.specs.Prelude.{◌≡◌, ℕ, List, [], ◌∷◌, ◌++◌, ⊤, Option, Some, None, Err, codes}
use Rattle.std.specs.Fmt.{decimal}
use Rattle.asl_json_data.specs.Data.{Data}
use Rattle.asl_json.specs.View.{data_of}
use Rattle.asl_json_data.specs.Reads.{ReadsAs}
use Rattle.asl_json_read.specs.FaultText.{fault_text}
use Rattle.asl_json.specs.declared.value.Json.{Json}
use Rattle.asl_check.specs.Judged.{IsMachineOf, IsTextFault, IsFaultOf}
use Rattle.asl_check.specs.Lines.{fault_line}
use Rattle.asl_check.specs.declared.fault.Fault.{Fault}
use Rattle.asl_check.specs.declared.fault.Fault.TheVariants as check
use Rattle.asl_mock.specs.Answers as mocks
use Rattle.asl_mock.specs.Lines.{mock_line, case_line}
use Rattle.asl_mock.specs.Told.{IsAnswer}
use Rattle.asl_mock.specs.declared.fault.MockFault.{MockFault}
use Rattle.asl_mock.specs.declared.fault.MockFault.TheVariants as mock
use Rattle.asl_run_input.specs.declared.fault.EmulateFault.{EmulateFault}
use Rattle.asl_run_input.specs.declared.fault.EmulateFault.TheVariants.{Definition, Mocks, Case, Input, StepLine, OutOfMemory}
use Rattle.asl_run_input.specs.declared.setup.Setup.{Setup}
use Rattle.asl_run_input.specs.declared.step_at.StepAt.{StepAt}
use Rattle.asl_run_input.specs.Chosen.{machine_name, execution_name, case_chosen, IsLost}
use Rattle.asl_run_input.specs.FileLines.{IsFirstBadLine}
use Rattle.asl_run_input.specs.StepsFile.{IsStepLine, IsStepsFile}

-- ---- what they spell

abbrev pub IsInputOf : List ℕ → Json → Type 0
IsInputOf b x = ReadsAs b (data_of x)

-- the text is some input
pub record IsInput (b : List ℕ) : Type 0 where
  pub value : Json
  pub is_of : IsInputOf b value

-- a file, where there is one, spells these steps
abbrev pub AreStepsOf : Option (List ℕ) → Option (List StepAt) → Type 0
AreStepsOf None None = ⊤
AreStepsOf None (Some ss) = ⊥
AreStepsOf (Some b) None = ⊥
AreStepsOf (Some b) (Some ss) = IsStepsFile b ss

-- an execution starts at the moment of the first step that is named, and at the epoch where there is
-- none
abbrev pub start_of : Option (List StepAt) → ℕ
start_of (Some (s ∷ ss)) = s.moment
start_of (Some []) = 0
start_of None = 0

-- the setup of a run that starts at this moment
abbrev pub setup_for : Data → List ℕ → mocks.Case → Json → ℕ → Setup
setup_for m chosen c x start = record {
  machine = m;
  name_of_machine = machine_name chosen;
  case = c;
  input = x;
  name = execution_name chosen;
  start = start;
}

-- ---- why they are refused

-- the first fault of a definition's text
pub record IsDefinitionFault (b : List ℕ) (e : Fault) : Type 0 where
  pub is_fault : IsFaultOf b e
  pub told : e ≡ check.OutOfMemory → ⊥

abbrev pub IsBadDefinition : List ℕ → EmulateFault → Type 0
IsBadDefinition b (Definition e) = IsDefinitionFault b e
IsBadDefinition b _ = ⊥

-- the first fault of a mock file
pub record IsMockFault (b : List ℕ) (e : MockFault) : Type 0 where
  pub is_fault : IsAnswer b e
  pub told : e ≡ mock.OutOfMemory → ⊥

abbrev pub AreBadMocks : List ℕ → EmulateFault → Type 0
AreBadMocks b (Mocks e) = IsMockFault b e
AreBadMocks b _ = ⊥

-- the test case that is chosen isn't among those of these machines
abbrev pub IsNoCase : mocks.Machines → List ℕ → EmulateFault → Type 0
IsNoCase ms chosen (Case e) = case_chosen ms chosen ≡ Err e
IsNoCase ms chosen _ = ⊥

abbrev pub IsBadCase : List ℕ → List ℕ → EmulateFault → Type 0
IsBadCase mocks chosen (Case e) = IsLost mocks chosen e
IsBadCase mocks chosen _ = ⊥

abbrev pub IsBadInput : List ℕ → EmulateFault → Type 0
IsBadInput b (Input f) = IsTextFault b f
IsBadInput b _ = ⊥

-- a file of steps, where there is one, has this first line that is no step
abbrev pub AreBadSteps : Option (List ℕ) → EmulateFault → Type 0
AreBadSteps (Some b) (StepLine n) = IsFirstBadLine IsStepLine b n
AreBadSteps b _ = ⊥

-- this is why, unless memory ran out
abbrev pub Unless : (EmulateFault → Type 0) → EmulateFault → Type 0
Unless P OutOfMemory = Unit {0}
Unless P f = P f

-- ---- the text of a fault

abbrev pub refusal_line : EmulateFault → List ℕ
refusal_line (Definition e) = codes "definition: " ++ fault_line e
refusal_line (Mocks e) = codes "mocks: " ++ mock_line e
refusal_line (Case e) = codes "case: " ++ case_line e
refusal_line (Input f) = codes "input: " ++ fault_text f
refusal_line (StepLine n) = codes "steps: E1 StepLine " ++ decimal n
refusal_line OutOfMemory = codes "OutOfMemory"
