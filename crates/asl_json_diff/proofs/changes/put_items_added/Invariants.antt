use Rattle.std.proofs.Common.{◌≡◌, ◌++◌, drop, string_bytes}
use Rattle.asl_json_data.specs.Data.{chain}
use Rattle.asl_json.specs.View.{items_of}
use Rattle.asl_json_diff.specs.Changes.{items_added}
use Rattle.asl_json_diff.proofs.changes.put_items_added.Given as goal

-- the lines so far and those of the items that are left are all
abbrev pub invariant-loop-number : goal.invariant-loop-number
invariant-loop-number l = string_bytes l.out ++ items_added l.lead l.place l.number (chain (items_of (drop l.number l.new))) ≡ string_bytes l.fn.out ++ items_added l.lead l.place l.from (chain (items_of (drop l.from l.new)))
