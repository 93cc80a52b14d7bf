use Rattle.std.proofs.Common.{◌≡◌, ◌++◌}
use Rattle.std.specs.Prelude.{map}
use Rattle.std.specs.Vec.Iter.{into_iter_items}
use Rattle.asl_lint.specs.private.Founds.{spanned, with_nodes}
use Rattle.asl_lint.proofs.placing.with_nodes.Given as goal

abbrev pub invariant-loop-found : goal.invariant-loop-found
invariant-loop-found l = map spanned l.all.items ++ with_nodes (into_iter_items l.found-iterator) l.rest ≡ with_nodes l.fn.found.items l.nodes
