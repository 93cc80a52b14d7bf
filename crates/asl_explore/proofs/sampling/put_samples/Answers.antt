use Rattle.std.proofs.Common.{◌∙◌, refl, subst}
use Rattle.std.specs.List.{All}
use Rattle.asl_run_input.specs.declared.setup.Setup.{Setup}
use Rattle.asl_explore.specs.Searches.{outcomes_of, Shows}
use Rattle.asl_explore.proofs.Growing.{later-same, later-then}
use Rattle.asl_explore.proofs.sampling.put_samples.Goals as goal

pub loop-number-init : goal.loop-number-init
loop-number-init c = record {
  setup = refl;
  later = λ ws. later-same ws (outcomes_of c.args.found.now.list.items);
  shown = λ h. h;
  once = λ h. h;
}

pub returns-in_err-put_end-clause-later : goal.returns-in_err-put_end-clause-later
returns-in_err-put_end-clause-later c ws = later-then ws ws ws (outcomes_of c.args.found.now.list.items) (outcomes_of c.loop-number.found.list.items) (outcomes_of c.put_end.new.found.list.items) (c.loop-number.invariant.later ws) (c.put_end.ensures.later ws)

pub returns-in_err-put_end-clause-shown : goal.returns-in_err-put_end-clause-shown
returns-in_err-put_end-clause-shown c h =
    let e = c.take_picked.ensures.setup ∙ c.loop-number.invariant.setup in
    subst (λ (s : Setup). All (Shows c.args.orders s) c.loop-number.found.list.items → All (Shows c.args.orders s) c.put_end.new.found.list.items) e c.put_end.ensures.shown (c.loop-number.invariant.shown h)

pub returns-in_err-put_end-clause-once : goal.returns-in_err-put_end-clause-once
returns-in_err-put_end-clause-once c h = c.put_end.ensures.once (c.loop-number.invariant.once h)

pub loop-number-preserved : goal.loop-number-preserved
loop-number-preserved c =
    let e = c.take_picked.ensures.setup ∙ c.loop-number.invariant.setup in
    record {
      setup = c.put_end.ensures.setup ∙ e;
      later = λ ws. later-then ws ws ws (outcomes_of c.args.found.now.list.items) (outcomes_of c.loop-number.found.list.items) (outcomes_of c.put_end.new.found.list.items) (c.loop-number.invariant.later ws) (c.put_end.ensures.later ws);
      shown = λ h. subst (λ (s : Setup). All (Shows c.args.orders s) c.loop-number.found.list.items → All (Shows c.args.orders s) c.put_end.new.found.list.items) e c.put_end.ensures.shown (c.loop-number.invariant.shown h);
      once = λ h. c.put_end.ensures.once (c.loop-number.invariant.once h);
    }
