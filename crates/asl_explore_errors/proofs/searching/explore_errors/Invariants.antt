use Rattle.std.proofs.Common.{[]}
use Rattle.asl_task_errors.specs.View.{all_told}
use Rattle.asl_explore_errors.specs.Points.{plans_in}
use Rattle.asl_explore_errors.specs.private.Levels.{IsLevel}
use Rattle.asl_explore_errors.proofs.searching.explore_errors.Given as goal

-- the plans of so many errors come next
abbrev pub invariant-loop : goal.invariant-loop
invariant-loop g l = IsLevel g.J.Judge.accepts l.search.judges.now l.errors (all_told l.search.tasks.now) l.search.orders l.search.limit l.search.setup.now l.counter (plans_in l.level.longer.items) [] l.level.all
