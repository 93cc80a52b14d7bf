use Rattle.std.proofs.Common.{◌≡◌, ◌+◌, ◌++◌, drop}
use Rattle.std.specs.Prelude.{string_bytes, map}
use Rattle.asl_error_plans.specs.Telling.{outcomes_text}
use Rattle.asl_error_plans.proofs.telling.put_outcomes.Given as goal

-- the text so far and that of what is left are the whole
abbrev pub invariant-loop-index : goal.invariant-loop-index
invariant-loop-index l = string_bytes l.out ++ outcomes_text l.plans (l.index + 1) (map (λ t. t.now) (drop l.index l.outcomes)) ≡ string_bytes l.fn.out ++ outcomes_text l.plans 1 (map (λ t. t.now) l.outcomes)
