use Rattle.std.proofs.Common.{◌≡◌, false, ◌∙◌, ap, max, ℕ}
use Rattle.asl_run_branches.specs.Trees.{branches_of}
use Rattle.asl_run_branches.specs.Turns.{soonest, dues_among, dues_of}
use Rattle.asl_step.specs.Records.{is_finished}
use Rattle.asl_run_state.specs.World.{World, is_over}
use Rattle.asl_run_state.proofs.Picks.{dues-placed, not-true}
use Rattle.asl_run_state.proofs.world.World.soonest.Goals as goal

pub returns-clause-turn : goal.returns-clause-turn
returns-clause-turn g c =
    let limits = g.L.Limits.limits c.args.limits.now in
    let now = max c.args.self.now.last c.args.moment in
    let root = c.self.inside.root in
    c.soonest.ensures.turn
    ∙ ap (λ (n : ℕ). soonest n (dues_of limits root)) c.present.ensures
    ∙ ap (soonest now) (dues-placed limits root c.self.invariant.placed)
    ∙ ap (λ (w : World). soonest now (dues_among limits w.branches)) c.self.view_is

pub returns-clause-goes : goal.returns-clause-goes
returns-clause-goes g c running =
    let runs : is_over c.self.inside.outcome ≡ false = ap (λ (w : World). is_over w.outcome) c.self.view_is ∙ running in
    c.soonest.ensures.goes (not-true (is_finished c.self.inside.root.head.current) (c.self.invariant.goes runs))
