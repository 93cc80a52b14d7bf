use Rattle.std.proofs.lemmas.Str.{IsUtf8-from_ascii}
use Rattle.asl_session_repl.proofs.Spans.{when_ascii}
use Rattle.asl_session_repl.proofs.timed.read_moment.Goals as goal

pub returns-in_default-clause-only : goal.returns-in_default-clause-only
returns-in_default-clause-only c = λ w h. absurd (c.in_default.ensures.cases.0 (IsUtf8-from_ascii c.args.text.now (when_ascii c.args.text.now w h)))

pub returns-clause-only : goal.returns-clause-only
returns-clause-only c = λ w h. c.read_when.ensures.only w (rw (← c.in-Ok.ensures.cases.0) at h)
