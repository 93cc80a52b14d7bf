use Rattle.std.proofs.Common.{◌≡◌, drop}
use Rattle.asl_json_data.specs.Data.{pairs}
use Rattle.asl_json.specs.View.{members_of}
use Rattle.asl_suite_file.specs.Form.{are_known}
use Rattle.asl_suite_file.proofs.form.are_known.Given as goal

-- what is left decides
abbrev pub invariant-loop-member : goal.invariant-loop-member
invariant-loop-member l = are_known (pairs (members_of l.members)) ≡ are_known (pairs (members_of (drop l.member-index l.members)))
