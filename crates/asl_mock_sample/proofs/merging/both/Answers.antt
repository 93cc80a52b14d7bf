use Rattle.std.proofs.Common.{sym, ◌∙◌}
use Rattle.asl_json.specs.View.{data_of}
use Rattle.asl_mock_sample.proofs.Joining.{joined}
use Rattle.asl_mock_sample.proofs.merging.both.Goals as goal

pub returns-then-stands_for_anything : goal.returns-then-stands_for_anything
returns-then-stands_for_anything c = sym (joined (data_of c.args.one) (data_of c.args.other.now) (sym c.stands_for_anything.ensures ∙ c.if-stands_for_anything.true))
