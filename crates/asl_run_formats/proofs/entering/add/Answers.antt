use Rattle.std.proofs.Common.{sym}
use Rattle.asl_run_formats.proofs.NamesOnce.{kept, added}
use Rattle.asl_run_formats.proofs.entering.add.Goals as goal

pub returns-then-contains : goal.returns-then-contains
returns-then-contains c = kept c.args.name.now c.args.names.now.keys (sym c.if-contains.ensures)

pub returns : goal.returns
returns c = added c.args.name.now c.in_ok-name.name c.args.names.now.keys c.insert.new.self.keys c.in_ok-name.ensures.ok (sym c.if-contains.ensures) c.in_ok-insert.ensures.keys
