use Rattle.std.proofs.Common.{◌≡◌, drop}
use Rattle.asl_json_data.specs.Data.{pairs}
use Rattle.asl_json_write.specs.Pointers.{index_part}
use Rattle.asl_json.specs.View.{members_of}
use Rattle.asl_suite_file.specs.Form.{under, first_of, bad_members}
use Rattle.asl_suite_file.proofs.form.bad_members.Given as goal

-- the first is in what is left
abbrev pub invariant-loop-member : goal.invariant-loop-member
invariant-loop-member l =
    first_of (under (index_part l.test) (bad_members (pairs (members_of l.members))))
    ≡ first_of (under (index_part l.test) (bad_members (pairs (members_of (drop l.member-index l.members)))))
