use Rattle.std.proofs.Common.{List, ap, subst}
use Rattle.std.proofs.lemmas.List.{drop_all}
use Rattle.asl_task_errors.specs.View.{all_told}
use Rattle.asl_explore_errors.specs.declared.points.Point.{Point}
use Rattle.asl_explore_errors.specs.Points.{plans_in}
use Rattle.asl_explore_errors.specs.private.Levels.{IsLevel}
use Rattle.asl_explore_errors.proofs.Levels.{level_next}
use Rattle.asl_explore_errors.proofs.searching.try_each.Goals as goal

pub returns : goal.returns
returns g c number le h =
    let s = c.args.search.now in
    let none = ap plans_in (drop_all c.loop-plan.plan-index c.args.plans.now c.loop-plan-test.false) in
    level_next g.J.Judge.accepts s.judges.now c.args.most (all_told s.tasks.now) s.orders s.limit s.setup.now number (plans_in c.loop-plan.level.longer.items) c.loop-plan.level.all
    (subst (λ (ps : List (List Point)). IsLevel g.J.Judge.accepts s.judges.now c.args.most (all_told s.tasks.now) s.orders s.limit s.setup.now number ps (plans_in c.loop-plan.level.longer.items) c.loop-plan.level.all) none (c.loop-plan.invariant number le h))
