use Rattle.asl_json.specs.View.{members_of}
use Rattle.asl_lint_mocks.proofs.Overlapping.{apart_above}
use Rattle.asl_lint_mocks.proofs.keys.is_apart.Goals as goal

pub returns-then-span-top : goal.returns-then-span-top
returns-then-span-top c = apart_above c.in-Some.span c.args.span (members_of c.args.answers.now) c.args.top c.in-Some.is c.if-span-top.true c.requires
