use Rattle.std.proofs.Common.{◌≡◌, ◌++◌, drop, string_bytes}
use Rattle.asl_json_data.specs.Data.{pairs}
use Rattle.asl_json.specs.View.{members_of}
use Rattle.asl_json_diff.specs.Changes.{members_added}
use Rattle.asl_json_diff.proofs.changes.put_members_added.Given as goal

-- the lines so far and those of the members that are left are all
abbrev pub invariant-loop-member : goal.invariant-loop-member
invariant-loop-member l = string_bytes l.out ++ members_added l.lead l.place (pairs (members_of (drop l.member-index l.new))) (pairs l.old) ≡ string_bytes l.fn.out ++ members_added l.lead l.place (pairs (members_of l.new)) (pairs l.old)
