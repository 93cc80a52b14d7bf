use Rattle.std.proofs.Common.{◌≡◌, drop}
use Rattle.asl_json_data.specs.Data.{pairs}
use Rattle.asl_json.specs.View.{members_of}
use Rattle.asl_suite_file.specs.Differences.{at_unwanted}
use Rattle.asl_suite_file.proofs.difference.unwanted.Given as goal

-- it is in what is left
abbrev pub invariant-loop-member : goal.invariant-loop-member
invariant-loop-member l = at_unwanted l.fn.place (pairs l.wanted) (pairs (members_of l.came)) ≡ at_unwanted l.fn.place (pairs l.wanted) (pairs (members_of (drop l.member-index l.came)))
