use Rattle.std.proofs.Common.{◌≡◌, drop}
use Rattle.asl_json.specs.View.{members_of}
use Rattle.asl_json_data.specs.Distinct.{has_key}
use Rattle.asl_mock_sample.proofs.merging.has_key.Given as goal

abbrev pub invariant-loop-member : goal.invariant-loop-member
invariant-loop-member l = has_key l.key (members_of (drop l.member-index l.members)) ≡ has_key l.key (members_of l.members)
