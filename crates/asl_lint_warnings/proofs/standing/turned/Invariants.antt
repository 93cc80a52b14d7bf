use Rattle.std.specs.Prelude.{map}
use Rattle.asl_lint_warnings.proofs.Turning.{TurnedTo}
use Rattle.asl_lint_warnings.proofs.standing.turned.Given as goal

abbrev pub invariant-loop-from : goal.invariant-loop-from
invariant-loop-from l = TurnedTo (map (λ v. v.items) l.edges) l.from (map (λ v. v.items) l.turned.items)
