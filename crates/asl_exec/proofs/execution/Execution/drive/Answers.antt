use Rattle.std.proofs.Common.{◌≡◌, ◌≤◌, ◌∙◌, ap, false, true, arith}
use Rattle.std.specs.Prelude.{is_some}
use Rattle.asl_exec.specs.Driving.{chosen, after, end_of}
use Rattle.asl_exec.specs.Views.{setup_of, world_of}
use Rattle.asl_exec.proofs.Drives.{driven-more, steps-more, driven-stopped, steps-stopped, took-as, after-as}
use Rattle.asl_exec.proofs.execution.Execution.drive.Goals as goal

pub returns-in-Ok-false-clause-world : goal.returns-in-Ok-false-clause-world
returns-in-Ok-false-clause-world c =
    let same = c.loop-count.invariant.same in
    let s = setup_of c.args.self.now in
    let v = world_of c.loop-count.self in
    let none : false ≡ is_some (chosen s v) = took-as s (setup_of c.loop-count.self) v c.in-Ok-false.field-0 false same c.in-Ok-false.field-0-test c.in-Ok-false.ensures.took in
    let there : world_of c.advance.new.self ≡ after s v (chosen s v) = after-as s (setup_of c.loop-count.self) v (world_of c.advance.new.self) same c.in-Ok-false.ensures.world in
    let few : c.loop-count.count ≤ c.args.limit = omega (arith, c.loop-count-test.true) in
    driven-stopped c.loop-count.count c.args.limit s (world_of c.args.self.now) v (world_of c.advance.new.self) few c.loop-count.invariant.world none there

pub returns-in-Ok-false-clause-steps : goal.returns-in-Ok-false-clause-steps
returns-in-Ok-false-clause-steps c =
    let same = c.loop-count.invariant.same in
    let s = setup_of c.args.self.now in
    let v = world_of c.loop-count.self in
    let none : false ≡ is_some (chosen s v) = took-as s (setup_of c.loop-count.self) v c.in-Ok-false.field-0 false same c.in-Ok-false.field-0-test c.in-Ok-false.ensures.took in
    let few : c.loop-count.count ≤ c.args.limit = omega (arith, c.loop-count-test.true) in
    steps-stopped c.loop-count.count c.args.limit s (world_of c.args.self.now) v few c.loop-count.invariant.world c.loop-count.invariant.steps none

pub returns-in-Ok-false-clause-end : goal.returns-in-Ok-false-clause-end
returns-in-Ok-false-clause-end c = c.end.ensures ∙ ap end_of (returns-in-Ok-false-clause-world c)

pub loop-count-preserved : goal.loop-count-preserved
loop-count-preserved c =
    let same = c.loop-count.invariant.same in
    let s = setup_of c.args.self.now in
    let w = world_of c.args.self.now in
    let v = world_of c.loop-count.self in
    let some : true ≡ is_some (chosen s v) = took-as s (setup_of c.loop-count.self) v c.in-Ok-true.field-0 true same c.in-Ok-true.field-0-test c.in-Ok-true.ensures.took in
    let there : world_of c.advance.new.self ≡ after s v (chosen s v) = after-as s (setup_of c.loop-count.self) v (world_of c.advance.new.self) same c.in-Ok-true.ensures.world in
    record {
      world = there ∙ driven-more c.loop-count.count s w v c.loop-count.invariant.world;
      steps = steps-more c.loop-count.count s w v c.loop-count.invariant.world c.loop-count.invariant.steps some;
      same = c.in-Ok-true.ensures.setup ∙ same;
    }
