-- What callers see of a probe.
use Rattle.asl_exec.specs.declared.probe.Probe.{Probe}
use Rattle.asl_run_input.specs.declared.setup.Setup.{Setup}
use Rattle.asl_run_state.specs.World.{World}

-- what executions begin with
abbrev pub setup_of : Probe → Setup
setup_of x = x.execution.setup

-- the world in which it is
abbrev pub world_of : Probe → World
world_of x = x.execution.world
