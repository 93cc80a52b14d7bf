use Rattle.std.proofs.Common.{◌≡◌, [], take}
use Rattle.asl_json.specs.View.{members_of}
use Rattle.asl_mock.specs.Places.{in_each}
use Rattle.asl_mock.specs.Faults.{bad_keys_in}
use Rattle.asl_mock.proofs.bad_key.first_bad_key.Given as goal

abbrev pub invariant-loop-member : goal.invariant-loop-member
invariant-loop-member l = in_each bad_keys_in (members_of (take l.member-index l.responses)) ≡ []
