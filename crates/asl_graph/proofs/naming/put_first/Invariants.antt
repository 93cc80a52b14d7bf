use Rattle.std.proofs.Common.{◌≡◌, ◌++◌, string_bytes}
use Rattle.asl_graph.specs.Names.{shown_behind}
use Rattle.asl_graph.proofs.Behind.{last_behind}
use Rattle.asl_graph.proofs.naming.put_first.Given as goal

abbrev pub invariant-loop-character : goal.invariant-loop-character
invariant-loop-character l = record {
  so_far : string_bytes l.out ≡ string_bytes l.fn.out ++ shown_behind l.language 0 l.yielded;
  behind : l.last ≡ last_behind 0 l.yielded;
}
