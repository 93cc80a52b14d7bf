-- States of two tables are equal: they are the same but for the machines inside them, and those show the same, each over its
-- own table.
use Rattle.std.specs.Prelude.{List, Bool, true, false, ◌&&◌, Option, Some, None}
use Rattle.std.specs.Option.{option_eq}
use Rattle.asl_json_data.specs.Data.{list, chain}
use Rattle.asl_json.specs.Same.{equal, bytes_eq}
use Rattle.asl_def_schema.specs.Canon.{Named}
use Rattle.asl_def_shared.specs.Bodies.{bodies_of}
use Rattle.asl_def_states.specs.declared.parallel.Parallel.{Parallel as ParallelState}
use Rattle.asl_def_states.specs.declared.map.Map.{Map as MapState}
use Rattle.asl_def_states.specs.declared.processor.Processor.{Processor}
use Rattle.asl_def_states.specs.declared.processor.Processor.TheVariants.{Iterator, ItemProcessor}
use Rattle.asl_def_states.specs.declared.fail.Fail.{Fail as FailState}
use Rattle.asl_def_states.specs.declared.fail.FailText.{FailText}
use Rattle.asl_def_states.specs.declared.fail.FailText.TheVariants.{Told, At}
use Rattle.asl_def_states.specs.declared.state.State.{State}
use Rattle.asl_def_states.specs.declared.state.State.TheVariants.{Task, Pass, Choice, Wait, Parallel, Map, Succeed, Fail}
use Rattle.asl_def_states.specs.Show.{machine_shown}
use Rattle.asl_def_fields.specs.Equal.{written_alike}
use Rattle.asl_def_fields.specs.contracts.path.PathFieldPartialEq.TheImpl as paths
use Rattle.asl_def_shared.specs.contracts.common.CommonPartialEq.TheImpl as commons
use Rattle.asl_def_shared.specs.contracts.completion.CompletionPartialEq.TheImpl as completions
use Rattle.asl_def_states.specs.contracts.processor.SelectorPartialEq.TheImpl as selectors
use Rattle.asl_def_states.specs.contracts.task.TaskPartialEq.TheImpl as tasks
use Rattle.asl_def_states.specs.contracts.pass.PassPartialEq.TheImpl as passes
use Rattle.asl_def_states.specs.contracts.choice.ChoicePartialEq.TheImpl as choices
use Rattle.asl_def_states.specs.contracts.wait.WaitPartialEq.TheImpl as waits
use Rattle.asl_def_states.specs.contracts.succeed.SucceedPartialEq.TheImpl as succeeds

-- both are an Iterator, or both an ItemProcessor
abbrev pub spelled_equal : Processor → Processor → Bool
spelled_equal (Iterator a) (Iterator b) = true
spelled_equal (ItemProcessor c a) (ItemProcessor d b) = true
spelled_equal p q = false

-- ---- the machines inside them

abbrev pub branches_equal : List Named → ParallelState → List Named → ParallelState → Bool
branches_equal t x u y =
    equal (list (chain (bodies_of t x.branches))) (list (chain (bodies_of u y.branches)))

abbrev pub machine_equal : List Named → MapState → List Named → MapState → Bool
machine_equal t x u y = equal (machine_shown t x.processor) (machine_shown u y.processor)

abbrev pub machines_equal : List Named → State → List Named → State → Bool
machines_equal t (Parallel x) u (Parallel y) = branches_equal t x u y
machines_equal t (Map x) u (Map y) = machine_equal t x u y
machines_equal t x u y = true

-- ---- states but for the machines inside them

abbrev pub parallel_same : ParallelState → ParallelState → Bool
parallel_same x y =
    (commons.ghosts).eq x.common y.common
    && ((paths.ghosts).eq x.input_path y.input_path
    && (option_eq equal x.parameters y.parameters
    && (completions.ghosts).eq x.completion y.completion))

abbrev pub map_same : MapState → MapState → Bool
map_same x y =
    (commons.ghosts).eq x.common y.common
    && ((paths.ghosts).eq x.input_path y.input_path
    && (option_eq bytes_eq x.items_path y.items_path
    && (option_eq bytes_eq x.max_concurrency y.max_concurrency
    && (option_eq (selectors.ghosts).eq x.selector y.selector
    && (spelled_equal x.processor y.processor
    && (completions.ghosts).eq x.completion y.completion)))))

-- they show the same: a path is shown as a call of the same text would be, though no text is both
abbrev pub reason_same : Option FailText → Option FailText → Bool
reason_same None None = true
reason_same (Some (Told t)) (Some (Told u)) = bytes_eq t u
reason_same (Some (At p)) (Some (At q)) = written_alike p q
reason_same a b = false

abbrev pub fail_same : FailState → FailState → Bool
fail_same x y =
    (commons.ghosts).eq x.common y.common
    && (reason_same x.error y.error && reason_same x.cause y.cause)

abbrev pub state_same : State → State → Bool
state_same (Parallel x) (Parallel y) = parallel_same x y
state_same (Map x) (Map y) = map_same x y
state_same (Task x) (Task y) = (tasks.ghosts).eq x y
state_same (Pass x) (Pass y) = (passes.ghosts).eq x y
state_same (Choice x) (Choice y) = (choices.ghosts).eq x y
state_same (Wait x) (Wait y) = (waits.ghosts).eq x y
state_same (Succeed x) (Succeed y) = (succeeds.ghosts).eq x y
state_same (Fail x) (Fail y) = fail_same x y
state_same x y = false
