-- What says whether two setups are equal says whether they are one.
use Rattle.std.proofs.Common.{◌≡◌, ◌∙◌, Bool, sym}
use Rattle.std.specs.Prelude.{◌↔◌, IsTrue}
use Rattle.asl_run_input.specs.Equal.{setup_equal}
use Rattle.asl_run_input.specs.private.EqualLaws.{setup_decides}
use Rattle.asl_run_input.specs.declared.setup.Setup.{Setup}

pub says_same : (r : Bool) (a b : Setup) → r ≡ setup_equal a b → IsTrue r ↔ (a ≡ b)
says_same r a b e = (λ h. (setup_decides a b).0 (sym e ∙ h), λ h. e ∙ (setup_decides a b).1 h)
