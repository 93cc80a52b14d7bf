use Rattle.std.proofs.Common.{◌≡◌, ◌+◌, ◌*◌, ◌≤◌, length, List, true, ◌∷◌}
use Rattle.std.specs.Str.{IsUtf8}
use Rattle.asl_json.specs.View.{items_of}
use Rattle.asl_json_scan.specs.private.Machine.{value, key, first, run}
use Rattle.asl_json_data.specs.Limits.{max_depth}
use Rattle.asl_json_scan.specs.Open.{Frame, in_list}
use Rattle.asl_json.specs.Keys.{Knows}
use Rattle.asl_json_scan.specs.private.Leads.{WantsValue}
use Rattle.std.specs.Prelude.{[]}
use Rattle.asl_json_read.proofs.reading.+read.Given as goal

abbrev pub decreases-value : goal.decreases-value
decreases-value l = 2 * l.levels

abbrev pub decreases-items : goal.decreases-items
decreases-items l = 2 * l.levels + 1

abbrev pub decreases-members : goal.decreases-members
decreases-members l = 2 * l.levels + 1

abbrev pub invariant-members-loop-keys : goal.invariant-members-loop-keys
invariant-members-loop-keys l =
    ((st : List Frame) → length st + l.levels + 1 ≡ max_depth → run true first st l.bytes ≡ run true (key l.members) st l.rest)
    × (length l.rest ≤ length l.bytes)
    × IsUtf8 l.rest
    × Knows l.keys l.members

abbrev pub decreases-members-loop-keys : goal.decreases-members-loop-keys
decreases-members-loop-keys l = length l.rest

abbrev pub invariant-items-loop-values : goal.invariant-items-loop-values
invariant-items-loop-values l =
    ((st : List Frame) → length st + l.levels + 1 ≡ max_depth → (run true value (in_list [] ∷ st) l.bytes ≡ run true value (in_list (items_of l.values.items) ∷ st) l.rest) × WantsValue (in_list (items_of l.values.items) ∷ st) l.rest)
    × (length l.rest ≤ length l.bytes)
    × IsUtf8 l.rest

abbrev pub decreases-items-loop-values : goal.decreases-items-loop-values
decreases-items-loop-values l = length l.rest
