use Rattle.std.proofs.lemmas.List.{drop_all}
use Rattle.std.proofs.Common.{arith, subst}
use Rattle.asl_lint_files.specs.Linted.{IsTaken}
use Rattle.asl_lint_files.specs.declared.linting.LintFile.{LintFile}
use Rattle.asl_lint_files.proofs.Paired.{all_done, one_more}
use Rattle.asl_lint_files.proofs.linting.taken_all.Goals as goal

pub loop-file-preserved : goal.loop-file-preserved
loop-file-preserved c =
    let taken = subst (λ (f : LintFile). IsTaken f c.in_ok-take_file.field-0) c.file-item.is c.in_ok-take_file.ensures in
    one_more IsTaken c.args.files.now c.loop-file.file-index c.file-item.result c.in_ok-take_file.field-0 c.loop-file.all.items c.push.new.self.items c.loop-file-test.true c.in_ok-push.ensures.items taken c.loop-file.invariant

pub returns : goal.returns
returns c = all_done IsTaken c.args.files.now _ c.loop-file.all.items (drop_all c.loop-file.file-index c.args.files.now (omega (arith, c.loop-file-test.false))) c.loop-file.invariant
