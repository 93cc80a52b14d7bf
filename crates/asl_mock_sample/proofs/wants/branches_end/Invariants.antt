use Rattle.std.proofs.Common.{◌≡◌, drop}
use Rattle.asl_json_data.specs.Data.{chain}
use Rattle.asl_json.specs.View.{data_of, items_of, members_of}
use Rattle.asl_mock_sample.specs.Wants.{branches_end}
use Rattle.asl_mock_sample.proofs.wants.branches_end.Given as goal

abbrev pub invariant-loop-number : goal.invariant-loop-number
invariant-loop-number l = branches_end (members_of l.outputs.items) l.number (data_of l.wanted) (chain (items_of (drop l.number l.branches))) ≡ branches_end (members_of l.fn.outputs.items) 0 (data_of l.wanted) (chain (items_of l.branches))
