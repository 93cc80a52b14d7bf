use Rattle.std.proofs.Common.{◌≡◌, ◌++◌, drop, map}
use Rattle.std.specs.Prelude.{string_bytes}
use Rattle.std.specs.List.{flat_map}
use Rattle.asl_graph.specs.Marks.{mark_line}
use Rattle.asl_graph.proofs.marking.put_each.Given as goal

-- the lines so far and those of what is left are those of all
abbrev pub invariant-loop-name : goal.invariant-loop-name
invariant-loop-name l = string_bytes l.out ++ flat_map (mark_line l.language) (map string_bytes (drop l.name-index l.names)) ≡ string_bytes l.fn.out ++ flat_map (mark_line l.language) (map string_bytes l.names)
