-- What a checkpoint says of an execution that has gone on.
use Rattle.std.proofs.Common.{ℕ, ◌≡◌, ◌≤◌, List, ◌++◌, length, take, take_all, take_at, refl, sym, ◌∙◌, ap, arith, length-append}
use Rattle.asl_history.specs.declared.event.Event.{Event}
use Rattle.asl_run_state.specs.World.{World}
use Rattle.asl_run_state.specs.Checkpoints.{world_at, IsCheckpointOf}
use Rattle.asl_run_state.specs.declared.checkpoint.Checkpoint.{Checkpoint}

-- so many events more change nothing of it
pub shows-earlier : (c : Checkpoint) (w : World) (es more : List Event) → IsCheckpointOf c w → es ≡ w.events ++ more → world_at c es ≡ w
shows-earlier c w es more h e =
    let here : take c.told w.events ≡ w.events = take_all c.told w.events (omega (arith, h.told)) in
    let there : take c.told es ≡ w.events = ap (take c.told) e ∙ take_at w.events more c.told (sym h.told) in
    ap (λ (fs : List Event). record { branches = (world_at c es).branches; counts = (world_at c es).counts; events = fs; last = c.last; deadline = c.deadline; outcome = c.outcome }) (there ∙ sym here) ∙ h.shows

pub is-earlier : (c : Checkpoint) (w : World) (es more : List Event) → IsCheckpointOf c w → es ≡ w.events ++ more → IsCheckpointOf c (world_at c es)
is-earlier c w es more h e = rw (shows-earlier c w es more h e) h
