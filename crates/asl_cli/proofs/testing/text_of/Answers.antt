use Rattle.std.proofs.lemmas.Result.{IfOk-weaker}
use Rattle.asl_cli.proofs.testing.text_of.Goals as goal

pub returns-in-JUnit : goal.returns-in-JUnit
returns-in-JUnit c = rw c.in-JUnit.is (IfOk-weaker c.junit_of.result _ _ (λ t h. (c.args.words.now.expectations.now, c.args.findings.now, c.requires, h)) c.junit_of.ensures)

pub returns-in-Json : goal.returns-in-Json
returns-in-Json c = rw c.in-Json.is (IfOk-weaker c.json.result _ _ (λ t h. (c.args.findings.now, c.requires, h)) c.json.ensures)
