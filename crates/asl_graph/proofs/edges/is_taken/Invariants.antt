use Rattle.std.proofs.Common.{◌≡◌, drop}
use Rattle.asl_graph.specs.Edges.{is_taken}
use Rattle.asl_graph.proofs.edges.is_taken.Given as goal

abbrev pub invariant-loop-edge : goal.invariant-loop-edge
invariant-loop-edge l = is_taken (drop l.edge-index l.edges) l.state l.way ≡ is_taken l.edges l.state l.way
