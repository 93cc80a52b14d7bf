use Rattle.std.proofs.Common.{ap}
use Rattle.asl_json.specs.View.{data_of, members_of}
use Rattle.asl_lint_mocks.specs.Places.{numbers_of}
use Rattle.asl_lint_mocks.proofs.Each.{at_none, at_some}
use Rattle.asl_lint_mocks.proofs.placing.under_key.Goals as goal

pub returns-in_default : goal.returns-in_default
returns-in_default c = λ f h. at_none c.args.key.now (data_of c.args.value.now) f (members_of c.members.result.now) c.number_at.result _ c.number_at.ensures c.members.ensures.listed c.in_default.is (ap numbers_of c.new-none.ensures.items)

pub returns : goal.returns
returns c = λ f h. at_some c.args.key.now (data_of c.args.value.now) _ (members_of c.members.result.now) c.number_at.result c.in-Some.at (numbers_of c.args.inner.items) _ _ c.number_at.ensures c.members.ensures.listed c.in-Some.is (ap numbers_of c.new-all.ensures.items) c.in_ok-add_under.ensures h
