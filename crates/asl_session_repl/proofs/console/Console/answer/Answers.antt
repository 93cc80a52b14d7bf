use Rattle.asl_session_repl.proofs.Answering.{asked, obeyed}
use Rattle.asl_session_repl.proofs.console.Console.answer.Goals as goal

pub returns-in-Some-clause-answer : goal.returns-in-Some-clause-answer
returns-in-Some-clause-answer c = obeyed c.carry_out.result c.args.self.now c.carry_out.new.self c.args.line.now c.in-Some.request (rw c.in-Some.is at c.in_ok-request.ensures.found) c.carry_out.ensures.text c.carry_out.ensures.quits c.carry_out.ensures.next

pub returns-in-Some-clause-refused : goal.returns-in-Some-clause-refused
returns-in-Some-clause-refused c = asked c.carry_out.result c.args.self.now c.args.line.now c.in-Some.request (rw c.in-Some.is at c.in_ok-request.ensures.found) c.carry_out.ensures.refused
