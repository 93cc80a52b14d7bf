use Rattle.std.proofs.Common.{sym, subst}
use Rattle.std.specs.Prelude.{Ok}
use Rattle.asl_def_schema.specs.First.{IsFirst}
use Rattle.asl_def_schema.specs.States.{Finds, own_name, unique_claims}
use Rattle.asl_def_judge.proofs.Doubles.{old_name, new_name}
use Rattle.asl_def_judge.proofs.states.with_name.Goals as goal

pub returns-then-contains : goal.returns-then-contains
returns-then-contains c = λ ks h. subst (λ s. IsFirst (unique_claims ks (own_name s c.args.name.now)) c.here.result) (sym c.in-State.is) (old_name ks c.args.name.now c.args.seen c.contains.result c.here.result h c.contains.ensures c.if-contains.true c.here.ensures)

pub returns-in_ok-insert-in-State : goal.returns-in_ok-insert-in-State
returns-in_ok-insert-in-State c = λ ks h. subst (λ s. Finds ks (own_name s c.args.name.now) (Ok c.insert.new.self)) (sym c.in-State.is) (new_name ks c.args.name.now c.args.seen c.insert.new.self c.contains.result h c.contains.ensures c.if-contains.false c.in_ok-from_str-in-State.field-0 c.in_ok-from_str-in-State.ensures.ok c.in_ok-insert-in-State.ensures.updates)
