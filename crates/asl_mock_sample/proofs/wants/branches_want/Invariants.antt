use Rattle.std.proofs.Common.{◌≡◌, drop}
use Rattle.asl_json_data.specs.Data.{chain}
use Rattle.asl_json.specs.View.{data_of, items_of, members_of}
use Rattle.asl_mock_sample.specs.Merging.{anything}
use Rattle.asl_mock_sample.specs.Wants.{branches_want}
use Rattle.asl_mock_sample.proofs.wants.branches_want.Given as goal

abbrev pub invariant-loop-branch : goal.invariant-loop-branch
invariant-loop-branch l = branches_want (members_of l.inputs) (data_of l.wants) (chain (items_of (drop l.branch-index l.branches))) ≡ branches_want (members_of l.inputs) anything (chain (items_of l.branches))
