-- What `==` of refusals answers.
use Rattle.std.specs.Prelude.{Bool}
use Rattle.asl_run_state.specs.declared.refusal.Refusal.{Refusal}
use Rattle.asl_run_state.specs.contracts.refusal.RefusalPartialEq.TheImpl as refusals

abbrev pub refusal_eq : Refusal → Refusal → Bool
refusal_eq = (refusals.ghosts).eq
