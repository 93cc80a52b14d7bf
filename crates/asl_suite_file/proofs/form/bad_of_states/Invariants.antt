use Rattle.std.proofs.Common.{◌≡◌, drop}
use Rattle.asl_json_data.specs.Data.{pairs}
use Rattle.asl_json_write.specs.Pointers.{name_part, index_part}
use Rattle.asl_json.specs.View.{members_of}
use Rattle.asl_suite_file.specs.Form.{under, first_of, bad_of_states}
use Rattle.asl_suite_file.proofs.form.bad_of_states.Given as goal

-- the first is in what is left
abbrev pub invariant-loop-state : goal.invariant-loop-state
invariant-loop-state l =
    first_of (under (index_part l.test) (under (name_part l.key) (bad_of_states l.key (pairs (members_of l.states)))))
    ≡ first_of (under (index_part l.test) (under (name_part l.key) (bad_of_states l.key (pairs (members_of (drop l.state-index l.states))))))
