use Rattle.std.proofs.Common.{◌≡◌, ◌++◌, drop}
use Rattle.asl_json.specs.View.{items_of}
use Rattle.asl_json_data.specs.Data.{chain}
use Rattle.asl_state_names.specs.Names.{in_rules}
use Rattle.asl_state_names.proofs.naming.add_rules.Given as goal

-- the names so far and those of what is left are all
abbrev pub invariant-loop-i : goal.invariant-loop-i
invariant-loop-i l = l.names.items ++ in_rules l.machine l.place l.i (chain (items_of (drop l.i l.rule-items))) ≡ l.fn.names.items ++ in_rules l.machine l.place 0 (chain (items_of l.rule-items))
