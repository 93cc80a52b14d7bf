use Rattle.std.proofs.Common.{List}
use Rattle.asl_run_state.specs.declared.outcome.Outcome.{Outcome}
use Rattle.asl_run_input.specs.declared.setup.Setup.{Setup}
use Rattle.asl_explore.specs.declared.orders.Orders.{Orders}
use Rattle.asl_explore.specs.Calls.{AreMetSoFar}
use Rattle.asl_explore.proofs.calls.no_calls.Given as goal

-- no number is within bounds so far
abbrev pub invariant-loop : goal.invariant-loop
invariant-loop l = (o : Orders) (s : Setup) (os : List Outcome) → AreMetSoFar o s os l.calls.items
