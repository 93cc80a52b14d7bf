-- What `==` of each type answers, as a function of the two values that contracts see.
use Rattle.std.specs.Prelude.{List, Bool, false}
use Rattle.asl_json_data.specs.Data.{Data}
use Rattle.asl_def_states.specs.declared.task.Task.{Task as TaskState}
use Rattle.asl_def_states.specs.declared.pass.Pass.{Pass as PassState}
use Rattle.asl_def_states.specs.declared.choice.ChoiceRule.{ChoiceRule}
use Rattle.asl_def_states.specs.declared.choice.Choice.{Choice as ChoiceState}
use Rattle.asl_def_states.specs.declared.wait.Delay.{Delay}
use Rattle.asl_def_states.specs.declared.wait.Wait.{Wait as WaitState}
use Rattle.asl_def_states.specs.declared.parallel.Parallel.{Parallel as ParallelState}
use Rattle.asl_def_states.specs.declared.processor.Processor.{Processor}
use Rattle.asl_def_states.specs.declared.processor.Selector.{Selector}
use Rattle.asl_def_states.specs.declared.map.Map.{Map as MapState}
use Rattle.asl_def_states.specs.declared.succeed.Succeed.{Succeed as SucceedState}
use Rattle.asl_def_states.specs.declared.fail.FailText.{FailText}
use Rattle.asl_def_states.specs.declared.fail.Fail.{Fail as FailState}
use Rattle.asl_def_states.specs.declared.state.State.{State}
use Rattle.asl_def_states.specs.declared.state.State.TheVariants.{Task, Pass, Choice, Wait, Parallel, Map, Succeed, Fail}
use Rattle.asl_def_states.specs.contracts.task.TaskPartialEq.TheImpl as task_impl
use Rattle.asl_def_states.specs.contracts.pass.PassPartialEq.TheImpl as pass_impl
use Rattle.asl_def_states.specs.contracts.choice.ChoiceRulePartialEq.TheImpl as choice_rule_impl
use Rattle.asl_def_states.specs.contracts.choice.ChoiceRulesPartialEq.TheImpl as choice_rules_impl
use Rattle.asl_def_states.specs.contracts.choice.ChoicePartialEq.TheImpl as choice_impl
use Rattle.asl_def_states.specs.contracts.wait.DelayPartialEq.TheImpl as delay_impl
use Rattle.asl_def_states.specs.contracts.wait.WaitPartialEq.TheImpl as wait_impl
use Rattle.asl_def_states.specs.contracts.parallel.ParallelPartialEq.TheImpl as parallel_impl
use Rattle.asl_def_states.specs.contracts.processor.ProcessorPartialEq.TheImpl as processor_impl
use Rattle.asl_def_states.specs.contracts.processor.SelectorPartialEq.TheImpl as selector_impl
use Rattle.asl_def_states.specs.contracts.map.MapPartialEq.TheImpl as map_impl
use Rattle.asl_def_states.specs.contracts.succeed.SucceedPartialEq.TheImpl as succeed_impl
use Rattle.asl_def_states.specs.contracts.fail.FailTextPartialEq.TheImpl as fail_text_impl
use Rattle.asl_def_states.specs.contracts.fail.FailPartialEq.TheImpl as fail_impl

abbrev pub task_eq : TaskState → TaskState → Bool
task_eq = (task_impl.ghosts).eq

abbrev pub pass_eq : PassState → PassState → Bool
pass_eq = (pass_impl.ghosts).eq

abbrev pub choice_rule_eq : ChoiceRule → ChoiceRule → Bool
choice_rule_eq = (choice_rule_impl.ghosts).eq

abbrev pub choice_rules_eq : List Data → List Data → Bool
choice_rules_eq = (choice_rules_impl.ghosts).eq

abbrev pub choice_eq : ChoiceState → ChoiceState → Bool
choice_eq = (choice_impl.ghosts).eq

abbrev pub delay_eq : Delay → Delay → Bool
delay_eq = (delay_impl.ghosts).eq

abbrev pub wait_eq : WaitState → WaitState → Bool
wait_eq = (wait_impl.ghosts).eq

abbrev pub parallel_eq : ParallelState → ParallelState → Bool
parallel_eq = (parallel_impl.ghosts).eq

abbrev pub processor_eq : Processor → Processor → Bool
processor_eq = (processor_impl.ghosts).eq

abbrev pub selector_eq : Selector → Selector → Bool
selector_eq = (selector_impl.ghosts).eq

abbrev pub map_eq : MapState → MapState → Bool
map_eq = (map_impl.ghosts).eq

abbrev pub succeed_eq : SucceedState → SucceedState → Bool
succeed_eq = (succeed_impl.ghosts).eq

abbrev pub fail_text_eq : FailText → FailText → Bool
fail_text_eq = (fail_text_impl.ghosts).eq

abbrev pub fail_eq : FailState → FailState → Bool
fail_eq = (fail_impl.ghosts).eq

-- states of one table: the numbers of the machines inside them are compared too
abbrev pub state_eq : State → State → Bool
state_eq (Task x) (Task y) = task_eq x y
state_eq (Pass x) (Pass y) = pass_eq x y
state_eq (Choice x) (Choice y) = choice_eq x y
state_eq (Wait x) (Wait y) = wait_eq x y
state_eq (Parallel x) (Parallel y) = parallel_eq x y
state_eq (Map x) (Map y) = map_eq x y
state_eq (Succeed x) (Succeed y) = succeed_eq x y
state_eq (Fail x) (Fail y) = fail_eq x y
state_eq x y = false
