use Rattle.std.proofs.Common.{subst, sym}
use Rattle.asl_host.specs.Outcomes.{sink_use, IsTold}
use Rattle.asl_command_line.specs.declared.answers.Answer.{Answer}
use Rattle.asl_cli.specs.Answers.{text_told}
use Rattle.asl_cli.proofs.command.tell_answer.Goals as goal

pub returns-in-OutOfMemory : goal.returns-in-OutOfMemory
returns-in-OutOfMemory g c =
    subst (λ (a : Answer). IsTold (sink_use g.E.Sink.taken g.E.Sink.failures c.args.err.now c.tell_fault.new.err) (text_told a)) (sym c.in-OutOfMemory.is) c.tell_fault.ensures
