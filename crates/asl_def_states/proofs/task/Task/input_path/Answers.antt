use Rattle.std.proofs.Common.{refl}
use Rattle.std.specs.Prelude.{codes}
use Rattle.asl_def_shared.proofs.Names.{named}
use Rattle.asl_def_fields.specs.Shown.{path_shown}
use Rattle.asl_def_states.specs.Show.{task_members}
use Rattle.asl_def_states.proofs.task.Task.input_path.Goals as goal

pub returns : goal.returns
returns c = named (codes "InputPath") (path_shown c.args.self.now.input_path) (task_members c.args.self.now) refl
