use Rattle.asl_threads.proofs.Least.{own_end}
use Rattle.asl_threads.proofs.agreeing.is_own.Goals as goal

pub returns : goal.returns
returns c = own_end c.args.list.now c.args.rows.now c.args.number c.loop-row.at c.loop-row.row-index c.loop-row.invariant.inside c.loop-row-test.false c.loop-row.invariant.rest
