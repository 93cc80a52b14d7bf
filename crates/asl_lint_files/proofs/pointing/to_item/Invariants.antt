use Rattle.std.proofs.Common.{◌≡◌, drop}
use Rattle.asl_json_data.specs.Data.{chain}
use Rattle.asl_json.specs.View.{items_of}
use Rattle.asl_lint_files.specs.Pointing.{way_among_items}
use Rattle.asl_lint_files.proofs.pointing.to_item.Given as goal

-- it goes on among what is left
abbrev pub invariant-loop-number : goal.invariant-loop-number
invariant-loop-number l = way_among_items 0 (chain (items_of l.items)) l.pointer ≡ way_among_items l.number (chain (items_of (drop l.number l.items))) l.pointer
