use Rattle.std.proofs.Common.{◌≡◌, ◌+◌, ◌∙◌, ◌++◌, ◌∷◌, [], take, sym, ap}
use Rattle.std.proofs.lemmas.List.{take_more}
use Rattle.asl_run_input.specs.declared.step_at.StepAt.{StepAt}
use Rattle.asl_session.proofs.Advances.{done-more}
use Rattle.asl_session.proofs.session.Session.advance.Goals as goal

pub loop-count-preserved : goal.loop-count-preserved
loop-count-preserved c =
    let steps = c.args.steps.now in
    let a : StepAt = c.index-steps-count.result in
    let more : take (c.loop-count.count + 1) steps ≡ take c.loop-count.count steps ++ a ∷ [] = take_more steps c.loop-count.count a c.loop-count-test.true ∙ ap (λ (x : StepAt). take c.loop-count.count steps ++ x ∷ []) (sym c.index-steps-count.is) in
    rw more (done-more c.args.self.now c.loop-count.self c.try_step.new.self (take c.loop-count.count steps) a c.loop-count.invariant (rw c.in_default.is at c.try_step.ensures))
