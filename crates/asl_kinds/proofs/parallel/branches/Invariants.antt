use Rattle.std.proofs.Common.{◌≡◌, take, map}
use Rattle.asl_step.specs.declared.record.Record.TheVariants.{Ready}
use Rattle.asl_kinds.proofs.parallel.branches.Given as goal

abbrev pub invariant-loop-body : goal.invariant-loop-body
invariant-loop-body l = l.list.items ≡ map (λ b. Ready b.start.name l.input) (take l.body-index l.body-items)
