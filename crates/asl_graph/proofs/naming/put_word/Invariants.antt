use Rattle.std.proofs.Common.{◌≡◌, ◌++◌, string_bytes}
use Rattle.std.specs.List.{flat_map}
use Rattle.asl_graph.specs.Names.{word_char}
use Rattle.asl_graph.proofs.naming.put_word.Given as goal

abbrev pub invariant-loop-character : goal.invariant-loop-character
invariant-loop-character l = string_bytes l.out ≡ string_bytes l.fn.out ++ flat_map (word_char) l.yielded
