use Rattle.std.proofs.Common.{◌≡◌, ◌++◌, drop}
use Rattle.std.specs.Prelude.{string_bytes}
use Rattle.std.specs.List.{flat_map}
use Rattle.asl_error_plans.specs.Telling.{error_words}
use Rattle.asl_error_plans.proofs.telling.put_errors.Given as goal

-- the text so far and that of what is left are the whole
abbrev pub invariant-loop-error : goal.invariant-loop-error
invariant-loop-error l = string_bytes l.out ++ flat_map error_words (drop l.error-index l.plan) ≡ string_bytes l.fn.out ++ flat_map error_words l.plan
