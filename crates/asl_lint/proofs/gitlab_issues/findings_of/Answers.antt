use Rattle.std.specs.Prelude.{map}
use Rattle.asl_lint.proofs.Issuing.{more_found}
use Rattle.asl_lint.specs.private.Issues.{placed}
use Rattle.asl_lint.proofs.gitlab_issues.findings_of.Goals as goal

pub loop-file-preserved : goal.loop-file-preserved
loop-file-preserved c =
    more_found c.args.files.now c.loop-file.file-index c.file-item.result (map placed c.loop-file.all.items) (map placed c.add_findings.new.all.items) c.deref.result.now
    c.loop-file-test.true c.file-item.is c.deref.ensures.value c.in_ok-add_findings.ensures c.loop-file.invariant
