use Rattle.std.proofs.Common.{subst}
use Rattle.std.specs.Prelude.{Result, Ok, Err, IfOk}
use Rattle.asl_json.specs.Sound.{IsSound, KeysDiffer}
use Rattle.asl_check.proofs.Printing.{fitting_machine}
use Rattle.asl_check.proofs.laws.print_of.Goals as goal

where_ok : {A E : Type 0} (r : Result A E) (P : Type 0) → P → IfOk r (λ _. P)
where_ok (Ok x) P h = h
where_ok (Err e) P h = tt

pub returns-clause-accepted : goal.returns-clause-accepted
returns-clause-accepted c = where_ok _ _
    (fitting_machine c.args.machine.now (subst IsSound c.in_ok-value.ensures c.every_value_is_sound.ensures.sound) (subst KeysDiffer c.in_ok-value.ensures c.every_value_is_sound.ensures.keys) c.is_accepted.ensures.accepted c.is_accepted.ensures.stays)
