-- What the texts of a run say together, and which of their faults is answered.
use Rattle.std.specs.Prelude.{◌≡◌, List, ℕ, Option}
use Rattle.asl_check.specs.Judged.{IsDefinition, IsMachineOf}
use Rattle.asl_run_input.specs.declared.fault.EmulateFault.{EmulateFault}
use Rattle.asl_run_input.specs.declared.setup.Setup.{Setup}
use Rattle.asl_run_input.specs.declared.step_at.StepAt.{StepAt}
use Rattle.asl_run_input.specs.Chosen.{IsCaseOf, IsCase}
use Rattle.asl_run_input.specs.Texts.{IsInputOf, IsInput, AreStepsOf, start_of, setup_for, IsBadDefinition, AreBadMocks, IsBadCase, IsBadInput, AreBadSteps}

-- the texts of a run; a file of steps may be among them
pub record Texts : Type 0 where
  pub definition : List ℕ
  pub mocks : List ℕ
  pub chosen : List ℕ
  pub input : List ℕ
  pub steps : Option (List ℕ)

abbrev pub run_texts : List ℕ → List ℕ → List ℕ → List ℕ → Option (List ℕ) → Texts
run_texts definition mocks chosen input steps = record {
  definition = definition;
  mocks = mocks;
  chosen = chosen;
  input = input;
  steps = steps;
}

-- the texts are accepted: an execution begins with this setup, and takes these steps where a file
-- names them
pub record Accepts (t : Texts) (s : Setup) (ss : Option (List StepAt)) : Type 0 where
  pub machine_is : IsMachineOf t.definition s.machine
  pub case_is : IsCaseOf t.mocks t.chosen s.case
  pub input_is : IsInputOf t.input s.input
  pub steps_are : AreStepsOf t.steps ss
  pub setup_is : s ≡ setup_for s.machine t.chosen s.case s.input (start_of ss)

-- the fault of the first text, in this order, that is refused
pub data IsRefused (t : Texts) (f : EmulateFault) : Type 0 where
  by_definition : IsBadDefinition t.definition f → IsRefused t f
  by_mocks : IsDefinition t.definition → AreBadMocks t.mocks f → IsRefused t f
  by_case : IsDefinition t.definition → IsBadCase t.mocks t.chosen f → IsRefused t f
  by_input : IsDefinition t.definition → IsCase t.mocks t.chosen → IsBadInput t.input f
      → IsRefused t f
  by_steps : IsDefinition t.definition → IsCase t.mocks t.chosen → IsInput t.input
      → AreBadSteps t.steps f → IsRefused t f
