use Rattle.std.proofs.Common.{◌≡◌, ◌++◌, drop}
use Rattle.std.specs.Prelude.{string_bytes}
use Rattle.asl_explore_errors.specs.JsonLines.{plan_lines}
use Rattle.asl_explore_errors.proofs.json_lines.put_plan_lines.Given as goal

-- the text so far and that of what is left are the whole
abbrev pub invariant-loop-number : goal.invariant-loop-number
invariant-loop-number l = string_bytes l.out ++ plan_lines l.found.found.items l.number (drop l.number l.found.plans.items) ≡ string_bytes l.fn.out ++ plan_lines l.found.found.items 0 l.found.plans.items
