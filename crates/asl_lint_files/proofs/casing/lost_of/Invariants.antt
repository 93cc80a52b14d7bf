use Rattle.std.proofs.Common.{◌≡◌, ◌++◌, drop}
use Rattle.std.specs.Prelude.{map}
use Rattle.asl_json_data.specs.Data.{chain}
use Rattle.asl_json.specs.View.{data_of, items_of}
use Rattle.asl_lint.specs.Places.{noted}
use Rattle.asl_lint_files.specs.Judged.{lost_from}
use Rattle.asl_lint_files.proofs.casing.lost_of.Given as goal

-- what was found so far, and what is found of the tests that are left
abbrev pub invariant-loop-number : goal.invariant-loop-number
invariant-loop-number l =
    map noted l.found.items ++ lost_from l.number (data_of l.mocks) (chain (items_of (drop l.number l.tests)))
    ≡ lost_from 0 (data_of l.mocks) (chain (items_of l.tests))
