-- Texts that spell a run spell one, and aren't refused.
use Rattle.std.proofs.Common.{ℕ, ◌≡◌, List, [], ◌∷◌, ◌++◌, refl, sym, ◌∙◌, ap, subst, true}
use Rattle.std.specs.Prelude.{Ok, Err, Some, None, Option}
use Rattle.asl_json_data.specs.Data.{Data}
use Rattle.asl_json.specs.View.{data_of, same_json}
use Rattle.asl_json_data.specs.Reads.{ReadsAs}
use Rattle.asl_json_read.specs.Wrong.{HasFault, IsFaultOf}
use Rattle.asl_json_read.specs.declared.fault.JsonFault.{JsonFault}
use Rattle.asl_json_read.specs.declared.fault.JsonFault.TheVariants as json
use Rattle.asl_json_scan.proofs.Passing.{text_read}
use Rattle.asl_json_read.proofs.Faulting.{same_value, all_faultless}
use Rattle.asl_def_schema.specs.Claims.{Claim}
use Rattle.asl_def_schema.specs.First.{Each, Hold}
use Rattle.asl_def_schema.specs.Faults.{Accepted}
use Rattle.asl_def_schema.specs.declared.fault.FaultKind.{FaultKind}
use Rattle.asl_check.specs.Judged.{IsMachineOf, IsTextFault, IsFirstFault}
use Rattle.asl_check.specs.declared.fault.Fault.{Fault}
use Rattle.asl_check.specs.declared.fault.Fault.TheVariants as check
use Rattle.asl_check.proofs.Printing.{one_machine}
use Rattle.asl_mock.specs.Answers as mocks
use Rattle.asl_mock.specs.Answers.{mocks_of}
use Rattle.asl_mock.specs.Faults.{faults}
use Rattle.asl_mock.specs.Places.{first_of}
use Rattle.asl_mock.specs.Told as told
use Rattle.asl_mock.specs.Told.{IsMockFile}
use Rattle.asl_mock.specs.declared.fault.CaseFault.{CaseFault}
use Rattle.asl_mock.specs.declared.fault.MockFault.{MockFault}
use Rattle.asl_mock.specs.declared.fault.MockFault.TheVariants as mock
use Rattle.asl_run_input.specs.declared.fault.EmulateFault.{EmulateFault}
use Rattle.asl_run_input.specs.declared.fault.EmulateFault.TheVariants.{Definition, Mocks, Case, Input, StepLine, OutOfMemory}
use Rattle.asl_run_input.specs.declared.step_at.StepAt.{StepAt}
use Rattle.asl_run_input.specs.Chosen.{case_chosen, IsCaseOf, IsLost}
use Rattle.asl_run_input.specs.StepsFile.{IsStepLine}
use Rattle.asl_run_input.specs.Texts.{AreStepsOf, start_of, setup_for, IsDefinitionFault, IsBadDefinition, IsMockFault, AreBadMocks, IsBadCase, IsBadInput, AreBadSteps}
use Rattle.asl_run_input.specs.Emulations.{Texts, Accepts, IsRefused, by_definition, by_mocks, by_case, by_input, by_steps}
use Rattle.asl_run_input.specs.declared.setup.Setup.{Setup}
use Rattle.asl_run_input.proofs.LinesRead.{no_bad_line}
use Rattle.asl_run_input.proofs.OneReading.{one_reading}

-- ---- a JSON text

pub one_value : (b : List ℕ) (v w : Data) → ReadsAs b v → ReadsAs b w → v ≡ w
one_value b v w h g = same_value b v w (text_read true v b h.reads.0 h.reads.1) g.reads

pub no_fault : (b : List ℕ) (v : Data) (f : JsonFault) → ReadsAs b v → IsTextFault b f → ⊥
no_fault b v f h bad = clean f bad.is_fault bad.told
  where
    none : (g : JsonFault) → HasFault b g → ⊥
    none = all_faultless b v h.utf8 h.fits (text_read true v b h.reads.0 h.reads.1)

    clean : (g : JsonFault) → IsFaultOf b g → (g ≡ json.OutOfMemory → ⊥) → ⊥
    clean json.OutOfMemory k told_of = told_of refl
    clean (json.Syntax at) k told_of = none (json.Syntax at) k
    clean (json.Duplicate at) k told_of = none (json.Duplicate at) k
    clean (json.Depth at) k told_of = none (json.Depth at) k
    clean (json.Number at) k told_of = none (json.Number at) k
    clean json.Size k told_of = none json.Size k
    clean (json.Utf8 at) k told_of = none (json.Utf8 at) k

-- ---- a definition

pub held : (P : Claim → Type 0) (before : List Claim) (c : Claim) (after : List Claim) → Each P (before ++ c ∷ after) → P c
held P [] c after h = h.0
held P (b ∷ before) c after h = held P before c after h.1

no_first : (d : Data) (k : FaultKind) (p : List ℕ) → Accepted d → IsFirstFault d k p → ⊥
no_first d k p a bad = bad.is_first.broken (held Hold bad.is_first.before bad.is_first.claim bad.is_first.after (subst (Each Hold) bad.is_first.parts a.hold))

no_definition_fault : (b : List ℕ) (m : Data) (e : Fault) → IsMachineOf b m → IsDefinitionFault b e → ⊥
no_definition_fault b m (check.Json f) of bad = no_fault b of.definition f of.reads bad.is_fault
no_definition_fault b m (check.Definition k p) of bad =
    let fault = bad.is_fault in
    no_first fault.value k p (subst Accepted (one_value b of.definition fault.value of.reads fault.reads) of.accepted) fault.fault
no_definition_fault b m check.OutOfMemory of bad = bad.told refl

pub definition_is_good : (b : List ℕ) (m : Data) (f : EmulateFault) → IsMachineOf b m → IsBadDefinition b f → ⊥
definition_is_good b m (Definition e) of bad = no_definition_fault b m e of bad
definition_is_good b m (Mocks e) of bad = bad
definition_is_good b m (Case e) of bad = bad
definition_is_good b m (Input e) of bad = bad
definition_is_good b m (StepLine n) of bad = bad
definition_is_good b m OutOfMemory of bad = bad

-- ---- a mock file

pub one_file : (b : List ℕ) (ms ns : mocks.Machines) → IsMockFile b ms → IsMockFile b ns → ms ≡ ns
one_file b ms ns h g = h.spelled ∙ ap mocks_of (one_value b h.value g.value h.reads g.reads) ∙ sym g.spelled

no_mock_first : (b : List ℕ) (ms : mocks.Machines) (d : Data) (n : ℕ) (p : List ℕ) → IsMockFile b ms → ReadsAs b d → told.IsFirstFault d n p → ⊥
no_mock_first b ms d n p file reads bad =
    let none : faults d ≡ [] = subst (λ (z : Data). faults z ≡ []) (one_value b file.value d file.reads reads) file.faultless in
    let x : None ≡ Some (n, bad.place) = sym (ap first_of none) ∙ bad.first in (cc)

no_mock_fault : (b : List ℕ) (ms : mocks.Machines) (e : MockFault) → IsMockFile b ms → IsMockFault b e → ⊥
no_mock_fault b ms (mock.Json f) file bad = no_fault b file.value f file.reads (record { is_fault = bad.is_fault.0; is_first = bad.is_fault.1.0; told = bad.is_fault.1.1 })
no_mock_fault b ms (mock.Shape p) file bad = no_mock_first b ms bad.is_fault.value 2 p file bad.is_fault.reads bad.is_fault.fault
no_mock_fault b ms (mock.Key p) file bad = no_mock_first b ms bad.is_fault.value 3 p file bad.is_fault.reads bad.is_fault.fault
no_mock_fault b ms (mock.Overlap p) file bad = no_mock_first b ms bad.is_fault.value 4 p file bad.is_fault.reads bad.is_fault.fault
no_mock_fault b ms (mock.NoResponse p) file bad = no_mock_first b ms bad.is_fault.value 5 p file bad.is_fault.reads bad.is_fault.fault
no_mock_fault b ms mock.OutOfMemory file bad = bad.told refl

pub mocks_are_good : (b : List ℕ) (ms : mocks.Machines) (f : EmulateFault) → IsMockFile b ms → AreBadMocks b f → ⊥
mocks_are_good b ms (Mocks e) file bad = no_mock_fault b ms e file bad
mocks_are_good b ms (Definition e) file bad = bad
mocks_are_good b ms (Case e) file bad = bad
mocks_are_good b ms (Input e) file bad = bad
mocks_are_good b ms (StepLine n) file bad = bad
mocks_are_good b ms OutOfMemory file bad = bad

-- ---- a test case

one_case : (b chosen : List ℕ) (c d : mocks.Case) → IsCaseOf b chosen c → IsCaseOf b chosen d → c ≡ d
one_case b chosen c d h g =
    let same : case_chosen h.machines chosen ≡ case_chosen g.machines chosen = ap (λ (z : mocks.Machines). case_chosen z chosen) (one_file b h.machines g.machines h.mocks_are g.mocks_are) in
    let x : Ok c ≡ Ok d = sym h.chosen_is ∙ same ∙ g.chosen_is in (cc)

not_lost : (b chosen : List ℕ) (c : mocks.Case) (e : CaseFault) → IsCaseOf b chosen c → IsLost b chosen e → ⊥
not_lost b chosen c e h bad =
    let same : case_chosen h.machines chosen ≡ case_chosen bad.machines chosen = ap (λ (z : mocks.Machines). case_chosen z chosen) (one_file b h.machines bad.machines h.mocks_are bad.mocks_are) in
    let x : Ok c ≡ Err e = sym h.chosen_is ∙ same ∙ bad.fault in (cc)

pub case_is_good : (b chosen : List ℕ) (c : mocks.Case) (f : EmulateFault) → IsCaseOf b chosen c → IsBadCase b chosen f → ⊥
case_is_good b chosen c (Case e) h bad = not_lost b chosen c e h bad
case_is_good b chosen c (Definition e) h bad = bad
case_is_good b chosen c (Mocks e) h bad = bad
case_is_good b chosen c (Input e) h bad = bad
case_is_good b chosen c (StepLine n) h bad = bad
case_is_good b chosen c OutOfMemory h bad = bad

-- ---- an input, and steps

pub input_is_good : (b : List ℕ) (v : Data) (f : EmulateFault) → ReadsAs b v → IsBadInput b f → ⊥
input_is_good b v (Input e) h bad = no_fault b v e h bad
input_is_good b v (Definition e) h bad = bad
input_is_good b v (Mocks e) h bad = bad
input_is_good b v (Case e) h bad = bad
input_is_good b v (StepLine n) h bad = bad
input_is_good b v OutOfMemory h bad = bad

one_list_of_steps : (o : Option (List ℕ)) (ss us : Option (List StepAt)) → AreStepsOf o ss → AreStepsOf o us → ss ≡ us
one_list_of_steps None None None h g = refl
one_list_of_steps None None (Some us) h g = absurd g
one_list_of_steps None (Some ss) us h g = absurd h
one_list_of_steps (Some b) None us h g = absurd h
one_list_of_steps (Some b) (Some ss) None h g = absurd g
one_list_of_steps (Some b) (Some ss) (Some us) h g = ap Some (one_reading b ss us h g)

steps_are_good : (o : Option (List ℕ)) (ss : Option (List StepAt)) (f : EmulateFault) → AreStepsOf o ss → AreBadSteps o f → ⊥
steps_are_good None ss f h bad = bad
steps_are_good (Some b) None f h bad = h
steps_are_good (Some b) (Some ss) (StepLine n) h bad = no_bad_line IsStepLine b ss n h bad
steps_are_good (Some b) (Some ss) (Definition e) h bad = bad
steps_are_good (Some b) (Some ss) (Mocks e) h bad = bad
steps_are_good (Some b) (Some ss) (Case e) h bad = bad
steps_are_good (Some b) (Some ss) (Input e) h bad = bad
steps_are_good (Some b) (Some ss) OutOfMemory h bad = bad

-- ---- all texts of a run

pub one_emulation : (t : Texts) (s u : Setup) (ss us : Option (List StepAt)) → Accepts t s ss → Accepts t u us → (s ≡ u) × (ss ≡ us)
one_emulation t s u ss us h g =
    let machines = one_machine t.definition s.machine u.machine h.machine_is g.machine_is in
    let cases = one_case t.mocks t.chosen s.case u.case h.case_is g.case_is in
    let inputs = same_json s.input u.input (one_value t.input (data_of s.input) (data_of u.input) h.input_is g.input_is) in
    let steps = one_list_of_steps t.steps ss us h.steps_are g.steps_are in
    let setups : setup_for s.machine t.chosen s.case s.input (start_of ss) ≡ setup_for u.machine t.chosen u.case u.input (start_of us) = λ i. setup_for (machines i) t.chosen (cases i) (inputs i) (start_of (steps i)) in
    (h.setup_is ∙ setups ∙ sym g.setup_is, steps)

pub accepted_not_refused : (t : Texts) (s : Setup) (ss : Option (List StepAt)) (f : EmulateFault) → Accepts t s ss → IsRefused t f → ⊥
accepted_not_refused t s ss f h (by_definition bad) = definition_is_good t.definition s.machine f h.machine_is bad
accepted_not_refused t s ss f h (by_mocks is bad) = mocks_are_good t.mocks h.case_is.machines f h.case_is.mocks_are bad
accepted_not_refused t s ss f h (by_case is bad) = case_is_good t.mocks t.chosen s.case f h.case_is bad
accepted_not_refused t s ss f h (by_input is case_is bad) = input_is_good t.input (data_of s.input) f h.input_is bad
accepted_not_refused t s ss f h (by_steps is case_is input_is bad) = steps_are_good t.steps ss f h.steps_are bad
