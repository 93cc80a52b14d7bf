use Rattle.std.proofs.Common.{◌≡◌, drop}
use Rattle.asl_json_data.specs.Data.{chain}
use Rattle.asl_json_write.specs.Pointers.{name_part, index_part}
use Rattle.asl_json.specs.View.{items_of}
use Rattle.asl_suite_file.specs.Form.{under, first_of, bad_steps_from}
use Rattle.asl_suite_file.proofs.form.bad_steps_in.Given as goal

-- the first is in what is left
abbrev pub invariant-loop-i : goal.invariant-loop-i
invariant-loop-i l =
    first_of (under (index_part l.test) (under (name_part l.key) (bad_steps_from 0 (chain (items_of l.steps)))))
    ≡ first_of (under (index_part l.test) (under (name_part l.key) (bad_steps_from l.i (chain (items_of (drop l.i l.steps))))))
