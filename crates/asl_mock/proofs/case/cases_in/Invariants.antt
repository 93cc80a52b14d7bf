use Rattle.std.proofs.Common.{◌≡◌, [], take}
use Rattle.asl_json.specs.View.{members_of}
use Rattle.asl_mock.specs.Places.{in_each}
use Rattle.asl_mock.specs.Tables.{named}
use Rattle.asl_mock.specs.Answers.{machine_of}
use Rattle.asl_mock.specs.Faults.{lost_in_case, is_response}
use Rattle.asl_mock.proofs.case.cases_in.Given as goal

abbrev pub invariant-loop-member : goal.invariant-loop-member
invariant-loop-member l =
    let ms = members_of (take l.member-index l.members) in
    (named l.cases.entries ≡ machine_of (named l.responses.entries) ms) × (in_each (lost_in_case (is_response (named l.responses.entries))) ms ≡ [])
