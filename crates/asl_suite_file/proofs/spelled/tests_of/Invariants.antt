use Rattle.std.proofs.Common.{◌≡◌, ◌++◌, drop}
use Rattle.asl_json_data.specs.Data.{chain}
use Rattle.asl_json.specs.View.{items_of}
use Rattle.asl_suite_file.specs.Spelled.{tests_in}
use Rattle.asl_suite_file.proofs.spelled.tests_of.Given as goal

-- those so far and those of what is left are those of all
abbrev pub invariant-loop-item : goal.invariant-loop-item
invariant-loop-item l = l.tests.items ++ tests_in (chain (items_of (drop l.item-index l.items))) ≡ tests_in (chain (items_of l.items))
