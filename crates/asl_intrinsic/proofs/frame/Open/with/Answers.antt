use Rattle.asl_intrinsic.proofs.Keeping.{no_wrong, more_count, more_wrong, more_sound, kept_more}
use Rattle.std.proofs.Common.{◌∙◌}
use Rattle.asl_intrinsic.proofs.frame.Open.with.Goals as goal

pub returns-in-Some-clause-keeps : goal.returns-in-Some-clause-keeps
returns-in-Some-clause-keeps c = λ level f a h k. record {
  name = h.name;
  count = more_count level c.args.self f a c.more-count.result h c.more-count.ensures;
  wrong = more_wrong level c.args.self f a c.in-Some.first h c.in-Some.is;
  kept = λ e. absurd (no_wrong c.in-Some.first e);
}

pub returns-in_ok-push-in-Ok-clause-keeps : goal.returns-in_ok-push-in-Ok-clause-keeps
returns-in_ok-push-in-Ok-clause-keeps c = λ level f a h k.
    let one = rw c.in-Ok.is at k in
    record {
      name = h.name;
      count = more_count level c.args.self f a c.more-count.result h c.more-count.ensures;
      wrong = more_sound level c.args.self f a h c.in_default.is ∙ one.1;
      kept = λ e. kept_more c.args.self.arguments.items c.push.new.self.items c.in-Ok.argument f.1 a c.in_ok-push-in-Ok.ensures.items (h.kept c.in_default.is) one.0;
    }

pub returns-in-Err-clause-keeps : goal.returns-in-Err-clause-keeps
returns-in-Err-clause-keeps c = λ level f a h k.
    let one = rw c.in-Err.is at k in
    record {
      name = h.name;
      count = more_count level c.args.self f a c.more-count.result h c.more-count.ensures;
      wrong = more_sound level c.args.self f a h c.in_default.is ∙ one;
      kept = λ e. absurd (no_wrong c.in-Err.wrong e);
    }
