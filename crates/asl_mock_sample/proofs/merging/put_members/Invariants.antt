use Rattle.std.proofs.Common.{◌≡◌, drop}
use Rattle.asl_json_data.specs.Data.{pairs}
use Rattle.asl_json.specs.View.{members_of}
use Rattle.asl_mock_sample.specs.Merging.{with_members}
use Rattle.asl_mock_sample.proofs.merging.put_members.Given as goal

abbrev pub invariant-loop-other : goal.invariant-loop-other
invariant-loop-other l = with_members l.members (pairs (members_of (drop l.other-index l.others))) ≡ with_members l.fn.members (pairs (members_of l.others))
