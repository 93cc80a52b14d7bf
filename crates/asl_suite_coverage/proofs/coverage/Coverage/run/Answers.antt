use Rattle.asl_suite_coverage.proofs.Covering.{all_more}
use Rattle.asl_suite_coverage.proofs.coverage.Coverage.run.Goals as goal

pub returns-clause-ok : goal.returns-clause-ok
returns-clause-ok c = rw c.cover_all.ensures (all_more c.deref.result.now c.args.self.now.points.items)
