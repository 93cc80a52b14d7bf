use Rattle.std.proofs.Common.{◌≡◌, drop}
use Rattle.asl_suite.specs.Cases.{is_called}
use Rattle.asl_suite.specs.Reasons.{first_not}
use Rattle.asl_suite.proofs.explaining.first_uncalled.Given as goal

-- the first one is in what is left
abbrev pub invariant-loop-calls : goal.invariant-loop-calls
invariant-loop-calls l = first_not (is_called l.events) (drop l.calls-index l.wanted) ≡ first_not (is_called l.events) l.wanted
