use Rattle.std.proofs.Common.{◌≡◌, ◌-◌, drop, reverse}
use Rattle.asl_def_schema.specs.Pointers.{pointer_text}
use Rattle.asl_def_schema.proofs.fault.pointer_of.Given as goal

abbrev pub invariant-loop-i : goal.invariant-loop-i
invariant-loop-i l = l.place ≡ pointer_text (reverse (drop (l.count - l.i) l.steps))
