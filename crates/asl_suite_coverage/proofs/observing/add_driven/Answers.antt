use Rattle.std.proofs.Common.{◌≡◌, ◌-◌, ◌∙◌, false, sym}
use Rattle.std.specs.Prelude.{is_some}
use Rattle.asl_exec.specs.Driving.{chosen}
use Rattle.asl_exec.specs.Views.{setup_of, world_of}
use Rattle.asl_suite_coverage.proofs.Driving.{ended, more}
use Rattle.asl_suite_coverage.proofs.observing.add_driven.Goals as goal

pub returns-then-not-branch : goal.returns-then-not-branch
returns-then-not-branch c =
    let none : false ≡ is_some (chosen (setup_of c.loop.execution) (world_of c.loop.execution)) = sym c.if-not-branch.true ∙ c.in_ok-add_next.ensures.took in
    ended _ _ _ (c.args.limit - c.loop.counter) (setup_of c.loop.execution) (world_of c.loop.execution) _ c.loop.seen.items _ none c.in_ok-add_next.ensures.spots c.loop.invariant.spots

pub loop-preserved : goal.loop-preserved
loop-preserved c = record {
  spots = more _ _ c.loop.context.facts c.add_next.new.context.facts c.loop.counter c.args.limit (setup_of c.loop.execution) (setup_of c.add_next.new.execution) (world_of c.loop.execution) (world_of c.add_next.new.execution) c.add_next.new.seen.items c.loop.seen.items _ c.loop-test.true c.in_ok-add_next.ensures.facts c.in_ok-add_next.ensures.setup c.in_ok-add_next.ensures.world c.in_ok-add_next.ensures.spots c.loop.invariant.spots;
}
