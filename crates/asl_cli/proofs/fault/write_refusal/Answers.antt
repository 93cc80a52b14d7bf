use Rattle.std.proofs.Common.{◌++◌}
use Rattle.asl_host.specs.Outcomes.{fault_line, sink_use, IsBroken}
use Rattle.asl_host.proofs.Breaking.{broken_first, broken_rest, when_err, map_err}
use Rattle.asl_cli.proofs.fault.write_refusal.Goals as goal

pub returns-in_err-write_fault-clause-err : goal.returns-in_err-write_fault-clause-err
returns-in_err-write_fault-clause-err g c =
    when_err _ _ (broken_first g.E.Sink.taken g.E.Sink.failures _ _ (fault_line c.args.text.now) c.args.lines.now c.in_err-write_fault.ensures.err)

pub returns-clause-err : goal.returns-clause-err
returns-clause-err g c =
    map_err c.write_piece.result
    (IsBroken (sink_use g.E.Sink.taken g.E.Sink.failures c.write_fault.new.err c.write_piece.new.sink) c.args.lines.now)
    (IsBroken (sink_use g.E.Sink.taken g.E.Sink.failures c.args.err.now c.write_piece.new.sink) (fault_line c.args.text.now ++ c.args.lines.now))
    (λ broken. broken_rest g.E.Sink.taken g.E.Sink.failures _ _ _ (fault_line c.args.text.now) c.args.lines.now c.in_ok-write_fault.ensures.ok broken)
    c.write_piece.ensures.err
