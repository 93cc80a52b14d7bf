use Rattle.std.proofs.Common.{ℕ, [], ◌≡◌, ◌∙◌, refl, ap, length, Some}
use Rattle.asl_history.specs.declared.event.Event.{Event}
use Rattle.asl_step.specs.declared.effect.Children.TheVariants.{Kept}
use Rattle.asl_run_branches.specs.Trees.{nodes_of}
use Rattle.asl_run_branches.specs.Changes.{litter_of, change, nodes_after}
use Rattle.asl_run_state.proofs.Sound.{late-events, sound-late}
use Rattle.asl_run_state.proofs.world.World.time_out.Goals as goal

pub invariant_of-self-2 : goal.invariant_of-self-2
invariant_of-self-2 c =
    let root = c.self.inside.root in
    let es = c.self.inside.history.events in
    let told : c.append_linked.new.self.events ≡ late-events c.args.moment es = c.append_linked.ensures.events ∙ rw (c.in_ok-reserve.ensures.events, c.in_ok-nameless.ensures, c.in_ok-error.ensures, c.root-root.ensures) refl in
    let id : c.len.result ≡ length (late-events c.args.moment es) = c.len.ensures ∙ ap (length {A = Event}) told in
    rw told (sound-late c.args.moment root c.tell.new.self c.self.inside.counts.items es c.self.inside.outcome c.self.invariant
    (c.tell.ensures.nodes ∙ ap (λ (n : ℕ). nodes_after [] (change root.head.current (Some n) (litter_of [] Kept)) (nodes_of root)) id))
