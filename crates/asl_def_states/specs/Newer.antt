-- States in the newer spelling of Map states. (Amazon States Language, "Map State".)
use Rattle.std.specs.Prelude.{None, option_map}
use Rattle.asl_def_states.specs.declared.map.Map.{Map as MapState}
use Rattle.asl_def_states.specs.declared.processor.Selector.{Selector}
use Rattle.asl_def_states.specs.declared.processor.Selector.TheVariants.{Parameters, ItemSelector}
use Rattle.asl_def_states.specs.declared.processor.Processor.{Processor}
use Rattle.asl_def_states.specs.declared.processor.Processor.TheVariants.{Iterator, ItemProcessor}
use Rattle.asl_def_states.specs.declared.state.State.{State}
use Rattle.asl_def_states.specs.declared.state.State.TheVariants.{Task, Pass, Choice, Wait, Parallel, Map, Succeed, Fail}

abbrev pub newer_processor : Processor → Processor
newer_processor (Iterator b) = ItemProcessor None b
newer_processor (ItemProcessor c b) = ItemProcessor c b

abbrev pub newer_selector : Selector → Selector
newer_selector (Parameters x) = ItemSelector x
newer_selector (ItemSelector x) = ItemSelector x

abbrev pub newer_map : MapState → MapState
newer_map m = record m {
  selector = option_map newer_selector m.selector;
  processor = newer_processor m.processor;
}

abbrev pub newer_state : State → State
newer_state (Task x) = Task x
newer_state (Pass x) = Pass x
newer_state (Choice x) = Choice x
newer_state (Wait x) = Wait x
newer_state (Parallel x) = Parallel x
newer_state (Map x) = Map (newer_map x)
newer_state (Succeed x) = Succeed x
newer_state (Fail x) = Fail x
