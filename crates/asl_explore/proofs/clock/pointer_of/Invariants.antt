use Rattle.std.proofs.Common.{◌≡◌, ◌-◌, drop, reverse}
use Rattle.std.specs.List.{flat_map}
use Rattle.asl_json_write.specs.Pointers.{name_part}
use Rattle.asl_explore.proofs.clock.pointer_of.Given as goal

-- the part of the way so far is told
abbrev pub invariant-loop-i : goal.invariant-loop-i
invariant-loop-i l = l.place ≡ flat_map name_part (reverse (drop (l.count - l.i) l.way))
