use Rattle.std.proofs.Common.{◌≡◌, drop}
use Rattle.asl_suite.specs.Cases.{is_invoked}
use Rattle.asl_suite.specs.Reasons.{first_not}
use Rattle.asl_suite.proofs.explaining.first_uninvoked.Given as goal

-- the first one is in what is left
abbrev pub invariant-loop-count : goal.invariant-loop-count
invariant-loop-count l = first_not (is_invoked l.machine l.world.counts) (drop l.count-index l.wanted) ≡ first_not (is_invoked l.machine l.world.counts) l.wanted
