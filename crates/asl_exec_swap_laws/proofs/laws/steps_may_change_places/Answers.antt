use Rattle.std.proofs.Common.{◌∷◌}
use Rattle.asl_exec.specs.Steps.{opening, world_after, step}
use Rattle.asl_exec_swap_laws.proofs.OneEach.{one-each}
use Rattle.asl_exec_swap_laws.proofs.Changing.{exchange}
use Rattle.asl_exec_swap_laws.proofs.Alike.{later-alike, after-append}
use Rattle.asl_exec_swap_laws.proofs.laws.steps_may_change_places.Goals as goal

pub returns-clause-one : goal.returns-clause-one
returns-clause-one c = one-each

pub returns-clause-exchange : goal.returns-clause-exchange
returns-clause-exchange c = exchange

pub returns-clause-neighbours : goal.returns-clause-neighbours
returns-clause-neighbours c s l a b m x =
    let w = world_after s (opening s) l in
    rw (after-append s (opening s) l (a ∷ b ∷ m), after-append s (opening s) l (b ∷ a ∷ m))
    (later-alike s (step s (step s w a.place a.moment) b.place b.moment) (step s (step s w b.place b.moment) a.place a.moment) m (exchange s w a b (one-each s l) x).alike)
