use Rattle.asl_threads.proofs.Equalities.{entry_decides}
use Rattle.asl_threads.proofs.agreeing.is_entry.Goals as goal

pub returns-then-eq : goal.returns-then-eq
returns-then-eq c = entry_decides c.args.entry.now c.args.row.now c.eq-then-eq.result c.if-eq.ensures c.eq-then-eq.ensures
