use Rattle.std.proofs.Common.{◌≡◌, ◌∙◌, ◌++◌, ◌∷◌, [], ap, sym, refl}
use Rattle.asl_run_input.specs.declared.setup.Setup.{Setup}
use Rattle.asl_run_input.specs.declared.step_at.StepAt.{StepAt}
use Rattle.asl_run_state.specs.World.{World}
use Rattle.asl_exec.specs.Steps.{opening, world_after, step}
use Rattle.asl_exec.specs.Views.{setup_of, world_of}
use Rattle.asl_exec.proofs.Growing.{after-append}
use Rattle.asl_session.proofs.Marking.{marks-more}
use Rattle.asl_session.proofs.timeline.Timeline.take.Goals as goal

pub invariant_of-self-in-Ok : goal.invariant_of-self-in-Ok
invariant_of-self-in-Ok c =
    let x = c.self.inside.execution in
    let s = setup_of x in
    let steps = c.self.inside.steps.items in
    let a : StepAt = c.args.at.now in
    let more : c.push_reserved.new.self.items ≡ steps ++ a ∷ [] = c.push_reserved.ensures.items ∙ rw (c.in_ok-reserve.ensures.items, c.in_ok-kept.ensures) refl in
    let marks = rw c.as_slice.ensures.value at c.in_ok-mark.ensures.marks in
    let covered = rw c.as_slice.ensures.value at c.in_ok-mark.ensures.ok in
    let world : world_of c.step.new.self ≡ world_after s (opening s) (steps ++ a ∷ []) =
    c.in-Ok.ensures.ok ∙ ap (λ (w : World). step s w a.place a.moment) c.self.invariant.world ∙ sym (after-append s (opening s) steps (a ∷ [])) in
    rw more (record {
      world = world ∙ ap (λ (u : Setup). world_after u (opening u) (steps ++ a ∷ [])) (sym c.in-Ok.ensures.setup);
      marks = rw c.in-Ok.ensures.setup (marks-more s steps a c.mark.new.checkpoints.items marks covered);
    })
