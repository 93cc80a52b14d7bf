use Rattle.std.proofs.Common.{◌∷◌, length}
use Rattle.std.specs.Prelude.{◌↔◌}
use Rattle.asl_choice.specs.declared.pattern.Token.TheVariants.{Star}
use Rattle.asl_choice.specs.Patterns.{tokens, Fits}
use Rattle.asl_choice.proofs.pattern.after_leftmost.Given as goal

abbrev pub invariant-loop-left : goal.invariant-loop-left
invariant-loop-left l = Fits (Star ∷ tokens l.pattern) l.fn.text ↔ Fits (Star ∷ tokens l.pattern) l.text

abbrev pub decreases-loop-left : goal.decreases-loop-left
decreases-loop-left l = length l.text
