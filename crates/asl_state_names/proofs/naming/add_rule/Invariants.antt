use Rattle.std.proofs.Common.{◌≡◌, ◌++◌, drop}
use Rattle.asl_json.specs.View.{members_of}
use Rattle.asl_json_data.specs.Data.{pairs}
use Rattle.asl_state_names.specs.Names.{in_rule}
use Rattle.asl_state_names.proofs.naming.add_rule.Given as goal

-- the names so far and those of what is left are all
abbrev pub invariant-loop-i : goal.invariant-loop-i
invariant-loop-i l = l.names.items ++ in_rule l.machine l.place l.i (pairs (members_of (drop l.i l.member-items))) ≡ l.fn.names.items ++ in_rule l.machine l.place 0 (pairs (members_of l.member-items))
