use Rattle.std.proofs.Common.{◌≡◌, ◌++◌, drop}
use Rattle.asl_json_data.specs.Data.{pairs}
use Rattle.asl_json.specs.View.{members_of}
use Rattle.asl_suite_file.specs.Spelled.{counts_in}
use Rattle.asl_suite_file.proofs.spelled.counts_of.Given as goal

-- those so far and those of what is left are those of all
abbrev pub invariant-loop-member : goal.invariant-loop-member
invariant-loop-member l = l.counts.items ++ counts_in (pairs (members_of (drop l.member-index l.members))) ≡ counts_in (pairs (members_of l.members))
