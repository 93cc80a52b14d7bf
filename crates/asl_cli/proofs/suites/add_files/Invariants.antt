use Rattle.std.proofs.Common.{◌≡◌, ◌++◌, drop}
use Rattle.std.specs.Prelude.{map}
use Rattle.asl_cli.specs.Projects.{suite_by, suite_seen}
use Rattle.asl_cli.proofs.suites.add_files.Given as goal

abbrev pub invariant-loop-file : goal.invariant-loop-file
invariant-loop-file l = map suite_seen l.suites.items ++ map (suite_by l.definition l.mocks) (drop l.file-index l.files) ≡ map suite_seen l.fn.suites.items ++ map (suite_by l.definition l.mocks) l.files
