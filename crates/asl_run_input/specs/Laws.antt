-- Laws of the texts of a run, over all texts.
use Rattle.std.specs.Prelude.{◌≡◌, List, Option}
use Rattle.asl_run_input.specs.declared.fault.EmulateFault.{EmulateFault}
use Rattle.asl_run_input.specs.declared.setup.Setup.{Setup}
use Rattle.asl_run_input.specs.declared.step_at.StepAt.{StepAt}
use Rattle.asl_run_input.specs.Emulations.{Texts, Accepts, IsRefused}

-- texts are accepted as one setup and one list of steps at most
abbrev pub OneEmulation : Type 0
OneEmulation =
    (t : Texts) (s u : Setup) (ss us : Option (List StepAt)) → Accepts t s ss → Accepts t u us
    → (s ≡ u) × (ss ≡ us)

-- texts that are accepted aren't refused
abbrev pub AcceptedIsNotRefused : Type 0
AcceptedIsNotRefused =
    (t : Texts) (s : Setup) (ss : Option (List StepAt)) (f : EmulateFault) → Accepts t s ss
    → IsRefused t f → ⊥

-- and those that are refused have one fault
abbrev pub OneFault : Type 0
OneFault = (t : Texts) (f g : EmulateFault) → IsRefused t f → IsRefused t g → f ≡ g
