use Rattle.std.proofs.Common.{◌≡◌, drop}
use Rattle.asl_json_data.specs.Data.{chain}
use Rattle.asl_json.specs.View.{items_of}
use Rattle.asl_suite_file.specs.Form.{first_of, bad_tests}
use Rattle.asl_suite_file.proofs.form.misfit.Given as goal

-- the first is in what is left
abbrev pub invariant-loop-i : goal.invariant-loop-i
invariant-loop-i l = first_of (bad_tests 0 (chain (items_of l.tests))) ≡ first_of (bad_tests l.i (chain (items_of (drop l.i l.tests))))
