use Rattle.asl_session_repl.proofs.Asking.{spaced-steps}
use Rattle.asl_session_repl.proofs.reading.read_spaced_steps.Goals as goal

pub returns-clause-only : goal.returns-clause-only
returns-clause-only c = spaced-steps c.read_steps.result c.args.text.now c.in-Some.text.now c.in-Some.ensures.found c.read_steps.ensures.only
