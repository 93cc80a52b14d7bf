use Rattle.std.specs.Prelude.{List}
use Rattle.asl_run_state.specs.World.{World}
use Rattle.asl_run_input.specs.declared.setup.Setup.{Setup}
use Rattle.asl_explore.specs.private.Reaching.{AreReaching, Reaches}
use Rattle.asl_explore.specs.declared.orders.Orders.{Orders}
use Rattle.asl_explore.proofs.endless.Reaching.note.Given as goal

-- what is known is so
abbrev pub invariant-loop : goal.invariant-loop
invariant-loop l = (o : Orders) (s : Setup) (ws : List World) → AreReaching o s ws l.fn.self.known.items l.fn.self.links.items → Reaches o s ws l.number → AreReaching o s ws l.self.known.items l.self.links.items
