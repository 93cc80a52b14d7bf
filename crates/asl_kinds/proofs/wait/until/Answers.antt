use Rattle.std.proofs.Common.{ap, sym, ◌∙◌}
use Rattle.asl_def_states.specs.Show.{wait_object, seconds_shown, seconds_path_shown, timestamp_shown}
use Rattle.asl_kinds.proofs.Waiting.{until_stamp}
use Rattle.asl_kinds.proofs.wait.until.Goals as goal

pub returns-in-Timestamp-clause-given : goal.returns-in-Timestamp-clause-given
returns-in-Timestamp-clause-given c =
    until_stamp (wait_object c.args.wait.now) _ _ _ _ _
    (sym (ap seconds_shown c.in-Timestamp.is) ∙ c.delay.ensures.seconds)
    (sym (ap seconds_path_shown c.in-Timestamp.is) ∙ c.delay.ensures.seconds_path)
    (sym (ap timestamp_shown c.in-Timestamp.is) ∙ c.delay.ensures.timestamp)
    c.moment.ensures
