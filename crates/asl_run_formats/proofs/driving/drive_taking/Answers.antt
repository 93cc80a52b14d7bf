use Rattle.std.proofs.Common.{◌≡◌, ◌-◌, ◌∙◌, Some, None}
use Rattle.asl_exec.specs.Driving.{chosen}
use Rattle.asl_exec.specs.Views.{setup_of, world_of}
use Rattle.asl_run_formats.proofs.Taking.{ended_steps, ended_world, more_steps, more_world}
use Rattle.asl_run_formats.proofs.driving.drive_taking.Goals as goal

pub returns-in_default-clause-steps : goal.returns-in_default-clause-steps
returns-in_default-clause-steps c =
    let none : None ≡ chosen (setup_of c.loop.execution) (world_of c.loop.execution) = rw c.in_default.is at c.in_ok-at.ensures.taken in
    ended_steps (c.args.limit - c.loop.counter) (setup_of c.loop.execution) (world_of c.loop.execution) c.loop.steps.items _ none c.loop.invariant.steps

pub returns-in_default-clause-world : goal.returns-in_default-clause-world
returns-in_default-clause-world c =
    let none : None ≡ chosen (setup_of c.loop.execution) (world_of c.loop.execution) = rw c.in_default.is at c.in_ok-at.ensures.taken in
    ended_world (c.args.limit - c.loop.counter) (setup_of c.loop.execution) (world_of c.loop.execution) _ _ none c.in_ok-at.ensures.world c.loop.invariant.world

pub loop-preserved : goal.loop-preserved
loop-preserved c =
    let s = setup_of c.loop.execution in
    let v = world_of c.loop.execution in
    let at = c.in-Some.at in
    let some : Some (at.place, at.moment) ≡ chosen s v = rw c.in-Some.is at c.in_ok-at.ensures.taken in
    record {
      steps = rw c.in_ok-push.ensures.items (more_steps c.loop.counter c.args.limit s (setup_of c.take_next.new.execution) v (world_of c.take_next.new.execution) at c.loop.steps.items _ c.loop-test.true c.in_ok-at.ensures.setup some c.in_ok-at.ensures.world c.loop.invariant.steps);
      world = more_world c.loop.counter c.args.limit s (setup_of c.take_next.new.execution) v (world_of c.take_next.new.execution) _ c.loop-test.true c.in_ok-at.ensures.setup c.in_ok-at.ensures.world c.loop.invariant.world;
      same = c.in_ok-at.ensures.setup ∙ c.loop.invariant.same;
    }
