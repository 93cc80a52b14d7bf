use Rattle.std.proofs.Common.{◌≡◌, ◌++◌, take}
use Rattle.std.specs.Prelude.{string_bytes}
use Rattle.std.specs.List.{flat_map}
use Rattle.asl_text.specs.Shown.{unit_escape}
use Rattle.asl_text.proofs.shown.put_escape.Given as goal

abbrev pub invariant-loop-unit : goal.invariant-loop-unit
invariant-loop-unit l = string_bytes l.out ≡ string_bytes l.fn.out ++ flat_map unit_escape (take l.unit-index l.unit-items)
