use Rattle.asl_session_repl.proofs.Spaces.{only_timed}
use Rattle.asl_session_repl.proofs.timed.read_step_text.Goals as goal

pub returns-in-Some-clause-only : goal.returns-in-Some-clause-only
returns-in-Some-clause-only c =
    only_timed c.args.text.now c.in-Some.timed c.in_ok-try_clone.field-0 c.in_ok-timed.field-0 c.in_ok-try_clone.ensures c.in-Some.is (rw c.in-Some.is at c.in_ok-timed.ensures.found) c.in_ok-timed.ensures.only
