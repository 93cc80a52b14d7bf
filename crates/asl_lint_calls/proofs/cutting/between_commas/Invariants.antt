use Rattle.std.proofs.Common.{◌≡◌, ◌≤◌, [], drop}
use Rattle.std.specs.Prelude.{IsCharBoundary, slice_range}
use Rattle.asl_lint_calls.specs.declared.cutting.Mode.TheVariants.{Plain}
use Rattle.asl_lint_calls.specs.Cutting.{pieces}
use Rattle.asl_lint_calls.specs.private.Views.{texts}
use Rattle.asl_lint_calls.proofs.Dividing.{behind}
use Rattle.asl_lint_calls.proofs.cutting.between_commas.Given as goal

abbrev pub invariant-loop-i : goal.invariant-loop-i
invariant-loop-i l = (behind (texts l.found.items) (pieces l.mode (slice_range l.text l.start l.i) (drop l.i l.text)) ≡ pieces (Plain 0) [] l.text) × (l.start ≤ l.i) × IsCharBoundary l.text l.start
