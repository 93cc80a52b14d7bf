use Rattle.std.proofs.Common.{◌≡◌, drop}
use Rattle.asl_json_data.specs.Data.{chain}
use Rattle.asl_json.specs.View.{data_of, items_of, members_of}
use Rattle.asl_mock_sample.specs.Wants.{caught}
use Rattle.asl_mock_sample.proofs.wants.caught.Given as goal

abbrev pub invariant-loop-catcher : goal.invariant-loop-catcher
invariant-loop-catcher l = caught (members_of l.inputs) (data_of l.wants) (chain (items_of (drop l.catcher-index l.catchers))) ≡ caught (members_of l.inputs) (data_of l.fn.so_far) (chain (items_of l.catchers))
