use Rattle.std.proofs.Common.{◌≡◌, ◌++◌, drop}
use Rattle.asl_json_data.specs.Data.{chain}
use Rattle.asl_json.specs.View.{items_of}
use Rattle.asl_suite_file.specs.Steps.{steps_in}
use Rattle.asl_suite_file.proofs.stepping.steps_in.Given as goal

-- those so far and those of what is left are those of all
abbrev pub invariant-loop-line : goal.invariant-loop-line
invariant-loop-line l = l.steps.items ++ steps_in (chain (items_of (drop l.line-index l.lines))) ≡ steps_in (chain (items_of l.lines))
