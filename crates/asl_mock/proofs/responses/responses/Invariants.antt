use Rattle.std.proofs.Common.{◌≡◌, [], take}
use Rattle.asl_json.specs.View.{members_of}
use Rattle.asl_mock.specs.Places.{in_each}
use Rattle.asl_mock.specs.Tables.{named}
use Rattle.asl_mock.specs.Answers.{responses_of}
use Rattle.asl_mock.specs.Faults.{overlaps_in}
use Rattle.asl_mock.proofs.responses.responses.Given as goal

abbrev pub invariant-loop-member : goal.invariant-loop-member
invariant-loop-member l =
    let ms = members_of (take l.member-index l.members) in
    (named l.responses.entries ≡ responses_of ms) × (in_each (overlaps_in) ms ≡ [])
