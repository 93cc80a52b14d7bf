use Rattle.asl_session.proofs.Commanding.{behind-found, behind-only}
use Rattle.asl_session.proofs.script_file.behind.Goals as goal

pub returns-clause-found : goal.returns-clause-found
returns-clause-found c = behind-found c.args.line.now c.args.word.now c.as_bytes.result.now c.strip_prefix.result c.as_bytes.ensures.value c.strip_prefix.ensures.cases

pub returns-clause-only : goal.returns-clause-only
returns-clause-only c = behind-only c.args.line.now c.args.word.now c.as_bytes.result.now c.strip_prefix.result c.as_bytes.ensures.value c.strip_prefix.ensures.cases
