use Rattle.std.proofs.Common.{◌≡◌, length, take}
use Rattle.std.specs.Prelude.{map}
use Rattle.asl_lint_warnings.specs.private.Places.{HasTurned}
use Rattle.asl_lint_warnings.proofs.standing.turn.Given as goal

abbrev pub invariant-loop-to : goal.invariant-loop-to
invariant-loop-to l = (length l.turned.items ≡ length l.fn.turned.items) × HasTurned (map (λ v. v.items) l.fn.turned.items) l.from (take l.to-index l.targets) (map (λ v. v.items) l.turned.items)
