use Rattle.asl_session.proofs.Commanding.{place-utf8}
use Rattle.asl_session.proofs.script_file.read_place.Goals as goal

pub returns-in_default-clause-only : goal.returns-in_default-clause-only
returns-in_default-clause-only c = λ p h. absurd (c.in_default.ensures.cases.0 (place-utf8 c.args.text.now p h))
