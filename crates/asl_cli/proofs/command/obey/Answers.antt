use Rattle.std.proofs.Common.{refl}
use Rattle.asl_cli.proofs.command.obey.Goals as goal

pub returns-in-Run : goal.returns-in-Run
returns-in-Run g c = rw c.in-Run.is (refl, c.run.ensures)

pub returns-in-Lint : goal.returns-in-Lint
returns-in-Lint g c = rw c.in-Lint.is (refl, c.lint.ensures)

pub returns-in-LintAll : goal.returns-in-LintAll
returns-in-LintAll g c = rw c.in-LintAll.is (refl, c.lint_all.ensures)

pub returns-in-Errors : goal.returns-in-Errors
returns-in-Errors g c = rw c.in-Errors.is (refl, c.inject.ensures)
