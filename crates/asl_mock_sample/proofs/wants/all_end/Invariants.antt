use Rattle.std.proofs.Common.{◌≡◌, drop}
use Rattle.asl_json.specs.View.{data_of, members_of}
use Rattle.asl_mock_sample.specs.Wants.{all_end}
use Rattle.asl_mock_sample.proofs.wants.all_end.Given as goal

abbrev pub invariant-loop-state : goal.invariant-loop-state
invariant-loop-state l = all_end (members_of l.outputs.items) (data_of l.output) (members_of (drop l.state-index l.states)) ≡ all_end (members_of l.fn.outputs.items) (data_of l.output) (members_of l.states)
