use Rattle.std.proofs.Common.{◌≡◌, drop}
use Rattle.asl_suite.specs.Cases.{is_visited}
use Rattle.asl_suite.specs.Reasons.{first_not}
use Rattle.asl_suite.proofs.explaining.first_unvisited.Given as goal

-- the first one is in what is left
abbrev pub invariant-loop-visit : goal.invariant-loop-visit
invariant-loop-visit l = first_not (is_visited l.events) (drop l.visit-index l.wanted) ≡ first_not (is_visited l.events) l.wanted
