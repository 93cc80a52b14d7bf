use Rattle.std.proofs.Common.{◌≡◌, drop}
use Rattle.asl_json.specs.View.{members_of}
use Rattle.asl_suite_coverage.specs.Answers.{answer_number}
use Rattle.asl_suite_coverage.proofs.answering.number_of.Given as goal

-- it is among those that are left
abbrev pub invariant-loop-i : goal.invariant-loop-i
invariant-loop-i l = answer_number 0 l.number (members_of l.answers) ≡ answer_number l.i l.number (members_of (drop l.i l.answers))
