use Rattle.std.proofs.Common.{◌≡◌, drop}
use Rattle.asl_json_data.specs.Data.{pairs}
use Rattle.asl_json.specs.View.{members_of}
use Rattle.asl_lint_files.specs.Pointing.{way_among_members}
use Rattle.asl_lint_files.proofs.pointing.to_member.Given as goal

-- it goes on among what is left
abbrev pub invariant-loop-number : goal.invariant-loop-number
invariant-loop-number l = way_among_members 0 (pairs (members_of l.members)) l.pointer ≡ way_among_members l.number (pairs (members_of (drop l.number l.members))) l.pointer
