use Rattle.std.proofs.lemmas.List.{drop_all}
use Rattle.std.proofs.Common.{arith}
use Rattle.asl_lint_files.proofs.Paired.{all_done, one_more}
use Rattle.asl_lint_files.proofs.linting.reported_all.Goals as goal

pub loop-file-preserved : goal.loop-file-preserved
loop-file-preserved c = one_more _ c.args.files.now c.loop-file.file-index _ c.in_ok-reported.field-0 c.loop-file.all.items c.push.new.self.items c.loop-file-test.true c.in_ok-push.ensures.items c.in_ok-reported.ensures c.loop-file.invariant

pub returns : goal.returns
returns c = all_done _ c.args.files.now _ c.loop-file.all.items (drop_all c.loop-file.file-index c.args.files.now (omega (arith, c.loop-file-test.false))) c.loop-file.invariant
