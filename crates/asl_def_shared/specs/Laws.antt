-- What `==` of each type answers, as a function of the two values that contracts see.
use Rattle.std.specs.Prelude.{List, Bool}
use Rattle.asl_json_data.specs.Data.{Data}
use Rattle.asl_def_shared.specs.declared.target.Target.{Target}
use Rattle.asl_def_shared.specs.declared.target.Transition.{Transition}
use Rattle.asl_def_shared.specs.declared.catcher.Catcher.{Catcher}
use Rattle.asl_def_shared.specs.declared.common.Common.{Common}
use Rattle.asl_def_shared.specs.declared.limits.TimeLimits.{TimeLimits}
use Rattle.asl_def_shared.specs.declared.completion.Completion.{Completion}
use Rattle.asl_def_shared.specs.declared.body.Body.{Body}
use Rattle.asl_def_shared.specs.declared.heading.Heading.{Heading}
use Rattle.asl_def_shared.specs.contracts.target.TargetPartialEq.TheImpl as target_impl
use Rattle.asl_def_shared.specs.contracts.target.TransitionPartialEq.TheImpl as transition_impl
use Rattle.asl_def_shared.specs.contracts.catcher.CatcherPartialEq.TheImpl as catcher_impl
use Rattle.asl_def_shared.specs.contracts.catcher.CatchersPartialEq.TheImpl as catchers_impl
use Rattle.asl_def_shared.specs.contracts.common.CommonPartialEq.TheImpl as common_impl
use Rattle.asl_def_shared.specs.contracts.limits.TimeLimitsPartialEq.TheImpl as limits_impl
use Rattle.asl_def_shared.specs.contracts.completion.CompletionPartialEq.TheImpl as completion_impl
use Rattle.asl_def_shared.specs.contracts.body.BodyPartialEq.TheImpl as body_impl
use Rattle.asl_def_shared.specs.contracts.body.BodiesPartialEq.TheImpl as bodies_impl
use Rattle.asl_def_shared.specs.contracts.heading.HeadingPartialEq.TheImpl as heading_impl

abbrev pub target_eq : Target → Target → Bool
target_eq = (target_impl.ghosts).eq

abbrev pub transition_eq : Transition → Transition → Bool
transition_eq = (transition_impl.ghosts).eq

abbrev pub catcher_eq : Catcher → Catcher → Bool
catcher_eq = (catcher_impl.ghosts).eq

abbrev pub catchers_eq : List Data → List Data → Bool
catchers_eq = (catchers_impl.ghosts).eq

abbrev pub common_eq : Common → Common → Bool
common_eq = (common_impl.ghosts).eq

abbrev pub limits_eq : TimeLimits → TimeLimits → Bool
limits_eq = (limits_impl.ghosts).eq

abbrev pub completion_eq : Completion → Completion → Bool
completion_eq = (completion_impl.ghosts).eq

abbrev pub body_eq : Body → Body → Bool
body_eq = (body_impl.ghosts).eq

abbrev pub bodies_eq : List Body → List Body → Bool
bodies_eq = (bodies_impl.ghosts).eq

abbrev pub heading_eq : Heading → Heading → Bool
heading_eq = (heading_impl.ghosts).eq
