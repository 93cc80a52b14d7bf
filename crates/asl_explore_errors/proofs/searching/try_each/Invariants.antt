use Rattle.std.proofs.Common.{ℕ, ◌≤◌, [], drop}
use Rattle.asl_task_errors.specs.View.{all_told}
use Rattle.asl_explore_errors.specs.Points.{plans_in}
use Rattle.asl_explore_errors.specs.private.Levels.{IsLevel}
use Rattle.asl_explore_errors.proofs.searching.try_each.Given as goal

-- these plans are left
abbrev pub invariant-loop-plan : goal.invariant-loop-plan
invariant-loop-plan g l = (number : ℕ) → number ≤ l.most
    → IsLevel g.J.Judge.accepts l.search.judges.now l.most (all_told l.search.tasks.now) l.search.orders l.search.limit l.search.setup.now number (plans_in l.plans) [] l.fn.all
    → IsLevel g.J.Judge.accepts l.search.judges.now l.most (all_told l.search.tasks.now) l.search.orders l.search.limit l.search.setup.now number (plans_in (drop l.plan-index l.plans)) (plans_in l.level.longer.items) l.level.all
