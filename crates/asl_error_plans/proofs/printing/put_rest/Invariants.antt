use Rattle.std.proofs.Common.{◌≡◌, ◌++◌, drop}
use Rattle.std.specs.Prelude.{string_bytes}
use Rattle.std.specs.List.{flat_map}
use Rattle.asl_error_plans.specs.Printing.{more_text}
use Rattle.asl_error_plans.proofs.printing.put_rest.Given as goal

-- the text so far and that of what is left are the whole
abbrev pub invariant-loop-ranged : goal.invariant-loop-ranged
invariant-loop-ranged l = string_bytes l.out ++ flat_map (more_text) (drop l.ranged-index l.answers) ≡ string_bytes l.fn.out ++ flat_map (more_text) l.answers
