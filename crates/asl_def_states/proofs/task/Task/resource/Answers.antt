use Rattle.std.proofs.Common.{refl}
use Rattle.std.specs.Prelude.{codes, Some}
use Rattle.asl_def_shared.proofs.Names.{named}
use Rattle.asl_json_data.specs.Data.{text}
use Rattle.asl_def_states.specs.Show.{task_members}
use Rattle.asl_def_states.proofs.task.Task.resource.Goals as goal

pub returns : goal.returns
returns c = named (codes "Resource") (Some (text c.args.self.now.resource)) (task_members c.args.self.now) refl
