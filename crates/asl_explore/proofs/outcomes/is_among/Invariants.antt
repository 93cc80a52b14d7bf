use Rattle.std.specs.List.{AllWithin}
use Rattle.asl_explore.specs.Searches.{outcomes_of}
use Rattle.asl_explore.proofs.Finding.{Other}
use Rattle.asl_explore.proofs.outcomes.is_among.Given as goal

-- those so far are others
abbrev pub invariant-loop-one : goal.invariant-loop-one
invariant-loop-one l = AllWithin (Other l.outcome) (outcomes_of l.found) 0 l.one-index
