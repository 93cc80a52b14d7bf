use Rattle.std.proofs.Common.{◌≡◌, drop}
use Rattle.std.specs.Prelude.{map}
use Rattle.asl_lint_warnings.specs.Texts.{is_near_any}
use Rattle.asl_lint_warnings.proofs.naming.is_near_any.Given as goal

abbrev pub invariant-loop-other : goal.invariant-loop-other
invariant-loop-other l = is_near_any l.name (map (λ x. x.now) (drop l.other-index l.others)) ≡ is_near_any l.name (map (λ x. x.now) l.others)
