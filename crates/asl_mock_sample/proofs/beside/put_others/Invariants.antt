use Rattle.std.proofs.Common.{◌≡◌, drop}
use Rattle.asl_json_data.specs.Data.{pairs}
use Rattle.asl_json.specs.View.{members_of}
use Rattle.asl_mock_sample.specs.Beside.{with_others}
use Rattle.asl_mock_sample.proofs.beside.put_others.Given as goal

abbrev pub invariant-loop-other : goal.invariant-loop-other
invariant-loop-other l = with_others l.path l.members (pairs (members_of (drop l.other-index l.others))) ≡ with_others l.path l.fn.members (pairs (members_of l.others))
