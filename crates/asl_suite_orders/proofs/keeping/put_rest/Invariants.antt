use Rattle.std.proofs.Common.{◌≡◌, ◌++◌, drop}
use Rattle.std.specs.Prelude.{string_bytes}
use Rattle.std.specs.List.{flat_map}
use Rattle.asl_suite_orders.specs.Keeping.{more_text}
use Rattle.asl_suite_orders.proofs.keeping.put_rest.Given as goal

-- the text so far and that of what is left are the whole
abbrev pub invariant-loop-step : goal.invariant-loop-step
invariant-loop-step l = string_bytes l.out ++ flat_map more_text (drop l.step-index l.steps) ≡ string_bytes l.fn.out ++ flat_map more_text l.steps
