use Rattle.std.proofs.Common.{◌∙◌, ap}
use Rattle.std.specs.Prelude.{is_none}
use Rattle.asl_exec.specs.Views.{setup_of, world_of}
use Rattle.asl_exec.proofs.Obstacles.{is_none-is, obstacle_to-none}
use Rattle.asl_exec.proofs.execution.Execution.may_swap.Goals as goal

pub returns : goal.returns
returns c =
    is_none-is c.in_ok-found.found c.is_none.result c.is_none.ensures
    ∙ ap is_none c.in_ok-found.ensures
    ∙ obstacle_to-none (setup_of c.args.self.now) (world_of c.args.self.now) c.args.one.now c.args.other.now
