use Rattle.std.proofs.Common.{◌≡◌, drop, None, option_map}
use Rattle.asl_json.specs.View.{data_of, members_of}
use Rattle.asl_mock_sample.specs.Wants.{last_behind}
use Rattle.asl_mock_sample.proofs.wants.last_behind.Given as goal

abbrev pub invariant-loop-member : goal.invariant-loop-member
invariant-loop-member l = last_behind (option_map (λ v. data_of v.now) l.last) l.name (members_of (drop l.member-index l.members)) ≡ last_behind None l.name (members_of l.members)
