use Rattle.std.specs.List.{All}
use Rattle.asl_explore.specs.Searches.{IsMissing, IsNumbered}
use Rattle.asl_explore.proofs.Lateness.{AreListedBefore}
use Rattle.asl_explore.proofs.late.others_in.Given as goal

-- those so far aren't among the others, and none of them is left out
abbrev pub invariant-loop-index : goal.invariant-loop-index
invariant-loop-index l = record {
  others : All (IsNumbered (IsMissing l.prompt.list.items) l.found) l.others.items;
  all : AreListedBefore l.prompt.list.items l.found l.index l.others.items;
}
