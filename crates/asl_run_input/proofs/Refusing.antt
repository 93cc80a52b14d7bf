-- A fault of one text is that of a run, where the texts before it are good.
use Rattle.std.proofs.Common.{◌≡◌, ℕ, List}
use Rattle.std.specs.Prelude.{Ok}
use Rattle.asl_json_data.specs.Data.{Data}
use Rattle.asl_json.specs.declared.value.Json.{Json}
use Rattle.asl_check.specs.Judged.{IsDefinition, IsMachineOf}
use Rattle.asl_mock.specs.Answers as mocks
use Rattle.asl_mock.specs.Told.{IsMockFile}
use Rattle.asl_run_input.specs.declared.fault.EmulateFault.{EmulateFault}
use Rattle.asl_run_input.specs.declared.fault.EmulateFault.TheVariants.{Definition, Mocks, Case, Input, StepLine, OutOfMemory}
use Rattle.asl_run_input.specs.Chosen.{case_chosen, IsCase}
use Rattle.asl_run_input.specs.Emulations.{Texts, IsRefused, by_case, by_input, by_steps}
use Rattle.asl_run_input.specs.Texts.{IsInputOf, IsNoCase, IsBadCase, IsBadInput, AreBadSteps, Unless}

carried : (P Q : EmulateFault → Type 0) → ((f : EmulateFault) → P f → Q f) → (f : EmulateFault) → Unless P f → Unless Q f
carried P Q h (Definition e) p = h (Definition e) p
carried P Q h (Mocks e) p = h (Mocks e) p
carried P Q h (Case e) p = h (Case e) p
carried P Q h (Input e) p = h (Input e) p
carried P Q h (StepLine n) p = h (StepLine n) p
carried P Q h OutOfMemory p = tt

a_definition : (d : List ℕ) (v : Data) → IsMachineOf d v → IsDefinition d
a_definition d v of = record { value = of.definition; reads = of.reads; accepted = of.accepted }

a_case : (m c : List ℕ) (ms : mocks.Machines) (found : mocks.Case) → IsMockFile m ms → case_chosen ms c ≡ Ok found → IsCase m c
a_case m c ms found file chosen = record { found = found; is_of = record { machines = ms; mocks_are = file; chosen_is = chosen } }

lost : (m c : List ℕ) (ms : mocks.Machines) (f : EmulateFault) → IsMockFile m ms → IsNoCase ms c f → IsBadCase m c f
lost m c ms (Case e) file bad = record { machines = ms; mocks_are = file; fault = bad }
lost m c ms (Definition e) file bad = bad
lost m c ms (Mocks e) file bad = bad
lost m c ms (Input e) file bad = bad
lost m c ms (StepLine n) file bad = bad
lost m c ms OutOfMemory file bad = bad

pub case_refused : (t : Texts) (v : Data) (ms : mocks.Machines) (f : EmulateFault) → IsMachineOf t.definition v → IsMockFile t.mocks ms → Unless (IsNoCase ms t.chosen) f → Unless (IsRefused t) f
case_refused t v ms f of file bad =
    carried (IsNoCase ms t.chosen) (IsRefused t) (λ g b. by_case (a_definition t.definition v of) (lost t.mocks t.chosen ms g file b)) f bad

pub input_refused : (t : Texts) (v : Data) (ms : mocks.Machines) (found : mocks.Case) (f : EmulateFault) → IsMachineOf t.definition v → IsMockFile t.mocks ms → case_chosen ms t.chosen ≡ Ok found → Unless (IsBadInput t.input) f → Unless (IsRefused t) f
input_refused t v ms found f of file chosen bad =
    carried (IsBadInput t.input) (IsRefused t) (λ g b. by_input (a_definition t.definition v of) (a_case t.mocks t.chosen ms found file chosen) b) f bad

pub steps_refused : (t : Texts) (v : Data) (ms : mocks.Machines) (found : mocks.Case) (j : Json) (f : EmulateFault) → IsMachineOf t.definition v → IsMockFile t.mocks ms → case_chosen ms t.chosen ≡ Ok found → IsInputOf t.input j → Unless (AreBadSteps t.steps) f → Unless (IsRefused t) f
steps_refused t v ms found j f of file chosen input bad =
    carried (AreBadSteps t.steps) (IsRefused t) (λ g b. by_steps (a_definition t.definition v of) (a_case t.mocks t.chosen ms found file chosen) (record { value = j; is_of = input }) b) f bad
