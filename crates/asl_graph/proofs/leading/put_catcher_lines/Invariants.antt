use Rattle.std.proofs.Common.{◌≡◌, ◌++◌, drop}
use Rattle.std.specs.Prelude.{string_bytes}
use Rattle.asl_json_data.specs.Data.{chain}
use Rattle.asl_json.specs.View.{items_of}
use Rattle.asl_graph.specs.Graphs.{catcher_lines}
use Rattle.asl_graph.proofs.leading.put_catcher_lines.Given as goal

-- the lines so far and those of what is left are those of all
abbrev pub invariant-loop-number : goal.invariant-loop-number
invariant-loop-number l = string_bytes l.out ++ catcher_lines l.language l.edges l.name l.number (chain (items_of (drop l.number l.catchers))) ≡ string_bytes l.fn.out ++ catcher_lines l.language l.edges l.name 0 (chain (items_of l.catchers))
