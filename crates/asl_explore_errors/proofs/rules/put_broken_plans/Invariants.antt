use Rattle.std.proofs.Common.{◌≡◌, ◌++◌, drop}
use Rattle.std.specs.Prelude.{string_bytes}
use Rattle.asl_explore_errors.specs.Rules.{broken_from}
use Rattle.asl_explore_errors.proofs.rules.put_broken_plans.Given as goal

-- the text so far and that of what is left are the whole
abbrev pub invariant-loop-index : goal.invariant-loop-index
invariant-loop-index l = string_bytes l.out ++ broken_from l.number l.found l.index (drop l.index l.plans) ≡ string_bytes l.fn.out ++ broken_from l.number l.found 0 l.plans
