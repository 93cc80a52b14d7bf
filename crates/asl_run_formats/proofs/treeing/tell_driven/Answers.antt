use Rattle.std.proofs.Common.{◌≡◌, ◌-◌, ◌∙◌, None, ap}
use Rattle.std.specs.Prelude.{◌++◌}
use Rattle.asl_exec.specs.Driving.{chosen}
use Rattle.asl_exec.specs.Views.{setup_of, world_of}
use Rattle.asl_trace.specs.Steps.{tree_lines}
use Rattle.asl_trace.specs.Views.{text_of, shows_of}
use Rattle.asl_trace.specs.declared.tree.Shows.{Shows}
use Rattle.asl_run_formats.specs.Taken.{step_at}
use Rattle.asl_run_formats.proofs.Taking.{ended_world, more_world}
use Rattle.asl_run_formats.proofs.Telling.{ended_text, more_text}
use Rattle.asl_run_formats.proofs.treeing.tell_driven.Goals as goal

pub returns-in_default-clause-world : goal.returns-in_default-clause-world
returns-in_default-clause-world c =
    let none : None ≡ chosen (setup_of c.loop.execution) (world_of c.loop.execution) = rw c.in_default.is at c.in_ok-_at.ensures.taken in
    ended_world (c.args.limit - c.loop.counter) (setup_of c.loop.execution) (world_of c.loop.execution) _ _ none c.in_ok-_at.ensures.world c.loop.invariant.world

pub returns-in_default-clause-text : goal.returns-in_default-clause-text
returns-in_default-clause-text c =
    let s = setup_of c.loop.execution in
    let v = world_of c.loop.execution in
    let none : None ≡ chosen s v = rw c.in_default.is at c.in_ok-_at.ensures.taken in
    ended_text (shows_of c.args.tree.now) (c.args.limit - c.loop.counter) s v (text_of c.loop.tree) _ _ none (c.in_ok-_at.ensures.text ∙ ap (λ (sh : Shows). text_of c.loop.tree ++ tree_lines sh s v (step_at (chosen s v))) c.loop.invariant.shows) c.loop.invariant.text

pub loop-preserved : goal.loop-preserved
loop-preserved c =
    let s = setup_of c.loop.execution in
    let v = world_of c.loop.execution in
    record {
      world = more_world c.loop.counter c.args.limit s (setup_of c.tell_next.new.execution) v (world_of c.tell_next.new.execution) _ c.loop-test.true c.in_ok-_at.ensures.setup c.in_ok-_at.ensures.world c.loop.invariant.world;
      text = more_text (shows_of c.args.tree.now) c.loop.counter c.args.limit s (setup_of c.tell_next.new.execution) v (world_of c.tell_next.new.execution) (text_of c.loop.tree) (text_of c.tell_next.new.tree) _ c.loop-test.true c.in_ok-_at.ensures.setup c.in_ok-_at.ensures.world (c.in_ok-_at.ensures.text ∙ ap (λ (sh : Shows). text_of c.loop.tree ++ tree_lines sh s v (step_at (chosen s v))) c.loop.invariant.shows) c.loop.invariant.text;
      same = c.in_ok-_at.ensures.setup ∙ c.loop.invariant.same;
      shows = c.in_ok-_at.ensures.shows ∙ c.loop.invariant.shows;
      facts = c.in_ok-_at.ensures.facts ∙ c.loop.invariant.facts;
    }
