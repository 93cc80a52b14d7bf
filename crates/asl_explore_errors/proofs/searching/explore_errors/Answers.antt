use Rattle.std.proofs.Common.{◌≡◌, ◌≤◌, ℕ, [], List, ap, arith, subst, sym}
use Rattle.asl_task_errors.specs.View.{all_told}
use Rattle.asl_explore_errors.specs.declared.points.Point.{Point}
use Rattle.asl_explore_errors.specs.Points.{plans_in}
use Rattle.asl_explore_errors.specs.private.Levels.{IsLevel}
use Rattle.asl_explore_errors.proofs.Levels.{level_first, level_last}
use Rattle.asl_explore_errors.proofs.searching.explore_errors.Goals as goal

pub loop-init : goal.loop-init
loop-init g c =
    let s = c.args.search.now in
    level_first g.J.Judge.accepts s.judges.now c.args.errors (all_told s.tasks.now) s.orders s.limit s.setup.now (plans_in c.in_ok-level.level.longer.items) c.in_ok-level.level.all c.in_ok-level.ensures.none c.in_ok-level.ensures.found c.in_ok-level.ensures.plan

pub returns : goal.returns
returns g c =
    let s = c.args.search.now in
    let all : c.loop.counter ≡ c.args.errors = omega (arith, c.loop-test.false, c.loop.auto.counter-end) in
    let least : c.args.errors ≤ c.args.errors = omega arith in
    let here = subst (λ (n : ℕ). IsLevel g.J.Judge.accepts s.judges.now c.args.errors (all_told s.tasks.now) s.orders s.limit s.setup.now n (plans_in c.loop.level.longer.items) [] c.loop.level.all) all c.loop.invariant in
    let lent = subst (λ (ps : List (List Point)). IsLevel g.J.Judge.accepts s.judges.now c.args.errors (all_told s.tasks.now) s.orders s.limit s.setup.now c.args.errors ps [] c.loop.level.all) (ap plans_in (sym c.deref-2.ensures.value)) here in
    level_last g.J.Judge.accepts s.judges.now c.args.errors (all_told s.tasks.now) s.orders s.limit s.setup.now (plans_in c.in_ok-all.field-0.longer.items) c.in_ok-all.field-0.all (c.in_ok-all.ensures c.args.errors least lent)
