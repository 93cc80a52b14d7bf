-- What callers see of an execution.
use Rattle.asl_exec.specs.declared.execution.Execution.{Execution}
use Rattle.asl_run_input.specs.declared.setup.Setup.{Setup}
use Rattle.asl_run_state.specs.World.{World}

-- what it began with
abbrev pub setup_of : Execution → Setup
setup_of x = x.setup

-- its world
abbrev pub world_of : Execution → World
world_of x = x.world
