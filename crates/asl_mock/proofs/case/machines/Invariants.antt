use Rattle.std.proofs.Common.{◌≡◌, [], take}
use Rattle.asl_json.specs.View.{members_of}
use Rattle.asl_mock.specs.Places.{in_each}
use Rattle.asl_mock.specs.Tables.{named}
use Rattle.asl_mock.specs.Answers.{machines_of}
use Rattle.asl_mock.specs.Faults.{lost_in_machine, is_response}
use Rattle.asl_mock.proofs.case.machines.Given as goal

abbrev pub invariant-loop-member : goal.invariant-loop-member
invariant-loop-member l =
    let ms = members_of (take l.member-index l.members) in
    (named l.machines.entries ≡ machines_of (named l.responses.entries) ms) × (in_each (lost_in_machine (is_response (named l.responses.entries))) ms ≡ [])
