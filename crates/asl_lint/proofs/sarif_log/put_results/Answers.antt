use Rattle.asl_lint.proofs.Writing.{files_written}
use Rattle.asl_writing.proofs.Pieces.{right, written}
use Rattle.asl_lint.proofs.sarif_log.put_results.Goals as goal

pub returns : goal.returns
returns c = written (right c.in_ok-put_char.ensures (right c.in_ok-put_files.ensures c.in_ok-put_char-2.ensures)) (files_written c.args.files.now)
