use Rattle.std.proofs.Common.{◌≡◌, drop}
use Rattle.asl_json_data.specs.Data.{pairs}
use Rattle.asl_json.specs.View.{members_of}
use Rattle.asl_mock_sample.specs.Rules.{held}
use Rattle.asl_mock_sample.proofs.rules.held.Given as goal

abbrev pub invariant-loop-member : goal.invariant-loop-member
invariant-loop-member l = held (pairs (members_of (drop l.member-index l.members))) ≡ held (pairs (members_of l.members))
