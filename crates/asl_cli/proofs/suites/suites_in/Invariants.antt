use Rattle.std.proofs.Common.{◌≡◌, ◌++◌, drop}
use Rattle.std.specs.Prelude.{map}
use Rattle.asl_cli.specs.Projects.{suite_seen, suites_in}
use Rattle.asl_cli.proofs.suites.suites_in.Given as goal

abbrev pub invariant-loop-workflow : goal.invariant-loop-workflow
invariant-loop-workflow l = map suite_seen l.suites.items ++ suites_in (drop l.workflow-index l.workflows) ≡ suites_in l.workflows
