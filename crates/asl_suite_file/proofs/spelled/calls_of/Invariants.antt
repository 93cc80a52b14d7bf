use Rattle.std.proofs.Common.{◌≡◌, ◌++◌, drop}
use Rattle.asl_json_data.specs.Data.{pairs}
use Rattle.asl_json.specs.View.{members_of}
use Rattle.asl_suite_file.specs.Spelled.{calls_in}
use Rattle.asl_suite_file.proofs.spelled.calls_of.Given as goal

-- those so far and those of what is left are those of all
abbrev pub invariant-loop-member : goal.invariant-loop-member
invariant-loop-member l = l.calls.items ++ calls_in (pairs (members_of (drop l.member-index l.members))) ≡ calls_in (pairs (members_of l.members))
