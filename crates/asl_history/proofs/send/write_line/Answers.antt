use Rattle.asl_history.proofs.Pieces.{line_nonempty}
use Rattle.asl_history.proofs.send.write_line.Goals as goal

pub returns-then-is_err-clause-short : goal.returns-then-is_err-clause-short
returns-then-is_err-clause-short g c = line_nonempty c.args.event.now
