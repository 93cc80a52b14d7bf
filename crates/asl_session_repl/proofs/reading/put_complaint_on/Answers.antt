use Rattle.asl_session_repl.proofs.reading.put_complaint_on.Goals as goal

pub returns-in-Some : goal.returns-in-Some
returns-in-Some c = rw c.in-Some.is (rw c.usage.ensures at c.put_two-in-Some.ensures)
