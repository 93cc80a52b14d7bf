use Rattle.asl_session_repl.proofs.Typing.{may-be-typed}
use Rattle.asl_session_repl.proofs.laws.lines_of_scripts_may_be_typed.Goals as goal

pub returns : goal.returns
returns c = may-be-typed
