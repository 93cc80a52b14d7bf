use Rattle.std.proofs.Common.{◌≡◌, ◌+◌, ◌*◌, drop, map}
use Rattle.std.specs.Prelude.{option_map}
use Rattle.asl_lint_calls.specs.Known.{known}
use Rattle.asl_lint_calls.specs.Reading.{read_arguments}
use Rattle.asl_lint_calls.specs.private.View.{all_seen}
use Rattle.asl_lint_calls.specs.private.Views.{texts}
use Rattle.asl_lint_calls.proofs.Gathering.{joined}
use Rattle.asl_lint_calls.proofs.calling.+calling.Given as goal

abbrev pub decreases-argument : goal.decreases-argument
decreases-argument l = 3 * l.levels + 1

abbrev pub decreases-all_arguments : goal.decreases-all_arguments
decreases-all_arguments l = 3 * l.levels + 2

abbrev pub decreases-call : goal.decreases-call
decreases-call l = 3 * l.levels

abbrev pub invariant-all_arguments-loop-piece : goal.invariant-all_arguments-loop-piece
invariant-all_arguments-loop-piece l = joined (all_seen l.found.items) (option_map (map known) (read_arguments l.levels (texts (drop l.piece-index l.pieces)))) ≡ option_map (map known) (read_arguments l.levels (texts l.pieces))
