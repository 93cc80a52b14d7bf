use Rattle.std.proofs.Common.{◌≡◌, length}
use Rattle.std.specs.Prelude.{ℕ, slice_index}
use Rattle.asl_run_state.specs.declared.outcome.Outcome.{Outcome}
use Rattle.asl_run_input.specs.declared.setup.Setup.{Setup}
use Rattle.asl_explore.specs.declared.orders.Orders.{Orders}
use Rattle.asl_explore.specs.Calls.{AreEachMet, AreWider, ComesWith}
use Rattle.asl_explore.proofs.Tallies.{AreInSoFar}
use Rattle.asl_explore.proofs.calls.Calls.widen.Given as goal

-- the counts so far are within bounds that are as wide as they were, or wider
abbrev pub invariant-loop-number : goal.invariant-loop-number
invariant-loop-number l = record {
  same : length l.self.bounds.items ≡ length l.fn.self.bounds.items;
  keeps : AreWider l.fn.self.bounds.items l.self.bounds.items;
  met : (o : Orders) (s : Setup) (outcome : Outcome) → ((k : ℕ) → ComesWith o s outcome k (slice_index l.world.counts k)) → AreEachMet (ComesWith o s outcome) l.fn.self.bounds.items → AreEachMet (ComesWith o s outcome) l.self.bounds.items;
  has : AreInSoFar l.self.bounds.items l.world.counts l.number;
}
