use Rattle.std.proofs.Common.{List, take}
use Rattle.std.specs.List.{All}
use Rattle.asl_run_state.specs.World.{World}
use Rattle.asl_run_input.specs.declared.setup.Setup.{Setup}
use Rattle.asl_explore.specs.declared.orders.Orders.{Orders}
use Rattle.asl_explore.specs.Remarks.{AreTold, IsNamed, IsUnentered}
use Rattle.asl_explore.specs.States.{IsStated}
use Rattle.asl_explore.specs.private.Seeing.{AreSeen}
use Rattle.asl_explore.proofs.remarking.unentered_in.Given as goal

-- those so far are told
abbrev pub invariant-loop-state : goal.invariant-loop-state
invariant-loop-state l = (o : Orders) (s : Setup) (ws : List World) → All (IsStated s.machine) l.states → AreSeen o s ws l.sights → AreTold (IsNamed (IsUnentered l.complete o s ws)) (take l.state-index l.states) l.names.items
