use Rattle.std.proofs.Common.{◌≡◌, [], take}
use Rattle.asl_json.specs.View.{members_of}
use Rattle.asl_mock.specs.Answers.{response_of}
use Rattle.asl_mock.specs.Faults.{overlaps_behind}
use Rattle.asl_mock.specs.private.Apart.{AreApart}
use Rattle.asl_mock.proofs.responses.response_in.Given as goal

abbrev pub invariant-loop-member : goal.invariant-loop-member
invariant-loop-member l =
    let ms = members_of (take l.member-index l.members) in
    (l.answers.items ≡ response_of ms) × (AreApart l.answers.items × (overlaps_behind [] ms ≡ []))
