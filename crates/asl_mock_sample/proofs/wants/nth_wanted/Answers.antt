use Rattle.std.proofs.Common.{ap, ◌∙◌}
use Rattle.asl_json.specs.View.{items_of}
use Rattle.asl_path.specs.Walk.{item_at}
use Rattle.asl_mock_sample.proofs.Placing.{item_got}
use Rattle.asl_mock_sample.proofs.wants.nth_wanted.Goals as goal

pub returns : goal.returns
returns c = c.item_at.ensures ∙ item_got (items_of c.items.result.now) c.args.number ∙ ap (item_at c.args.number) c.items.ensures
