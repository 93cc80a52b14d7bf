use Rattle.std.proofs.Common.{List, take}
use Rattle.std.specs.List.{All}
use Rattle.asl_run_state.specs.World.{World}
use Rattle.asl_run_input.specs.declared.setup.Setup.{Setup}
use Rattle.asl_explore.specs.declared.orders.Orders.{Orders}
use Rattle.asl_explore.specs.Remarks.{AreTold, IsCutOff, IsNamed}
use Rattle.asl_explore.specs.States.{IsStated}
use Rattle.asl_explore.specs.private.Seeing.{AreSeen}
use Rattle.asl_explore.proofs.remarking.cut_off_in.Given as goal

-- those so far are told
abbrev pub invariant-loop-state : goal.invariant-loop-state
invariant-loop-state l = (o : Orders) (s : Setup) (ws : List World) → All (IsStated s.machine) l.states → AreSeen o s ws l.sights → AreTold (IsNamed (IsCutOff s ws)) (take l.state-index l.states) l.names.items
