use Rattle.std.proofs.Common.{◌≡◌, drop}
use Rattle.std.specs.Prelude.{map}
use Rattle.asl_lint_warnings.specs.Texts.{begins_any}
use Rattle.asl_lint_warnings.proofs.naming.begins_any.Given as goal

abbrev pub invariant-loop-front : goal.invariant-loop-front
invariant-loop-front l = begins_any l.text (map (λ x. x.now) (drop l.front-index l.fronts)) ≡ begins_any l.text (map (λ x. x.now) l.fronts)
