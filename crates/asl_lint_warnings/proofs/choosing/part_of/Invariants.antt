use Rattle.std.proofs.Common.{◌≡◌, drop}
use Rattle.asl_json_data.specs.Data.{pairs}
use Rattle.asl_json.specs.View.{members_of}
use Rattle.asl_lint_warnings.specs.Choices.{part_from}
use Rattle.asl_lint_warnings.proofs.choosing.part_of.Given as goal

abbrev pub invariant-loop-number : goal.invariant-loop-number
invariant-loop-number l = part_from l.number (pairs (members_of (drop l.number l.member-items))) ≡ part_from 0 (pairs (members_of l.member-items))
