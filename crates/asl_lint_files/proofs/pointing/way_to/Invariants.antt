use Rattle.std.proofs.Common.{◌≡◌, ◌++◌, length}
use Rattle.asl_json.specs.View.{data_of}
use Rattle.asl_lint_files.specs.Pointing.{way_in}
use Rattle.asl_lint_files.proofs.pointing.way_to.Given as goal

-- the way so far and what is left of it
abbrev pub invariant-loop-way : goal.invariant-loop-way
invariant-loop-way l = l.way.items ++ way_in (data_of l.here) l.rest ≡ way_in (data_of l.value) l.pointer

abbrev pub decreases-loop-way : goal.decreases-loop-way
decreases-loop-way l = length l.rest
