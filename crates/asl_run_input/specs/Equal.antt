-- Two setups are equal where each of their parts is.
use Rattle.std.specs.Prelude.{Bool, ◌&&◌, nat_eq}
use Rattle.asl_json.specs.Same.{bytes_eq, equal, json_equal}
use Rattle.asl_mock.specs.Equal.{case_equal}
use Rattle.asl_run_input.specs.declared.setup.Setup.{Setup}
use Rattle.asl_run_input.specs.declared.step_at.StepAt.{StepAt}
use Rattle.asl_run_input.specs.contracts.step_at.StepAtPartialEq.TheImpl as steps

abbrev pub setup_equal : Setup → Setup → Bool
setup_equal a b =
    equal a.machine b.machine
    && (bytes_eq a.name_of_machine b.name_of_machine
    && (case_equal a.case b.case
    && (json_equal a.input b.input
    && (bytes_eq a.name b.name && nat_eq a.start b.start))))

-- what `==` of steps answers
abbrev pub step_eq : StepAt → StepAt → Bool
step_eq = (steps.ghosts).eq
