use Rattle.std.proofs.Common.{refl, ◌∙◌}
use Rattle.std.specs.Prelude.{codes, option_map}
use Rattle.asl_def_shared.proofs.Names.{named, lent}
use Rattle.asl_json_data.specs.Data.{text}
use Rattle.asl_def_states.specs.Show.{task_members}
use Rattle.asl_def_states.proofs.task.Task.heartbeat_path.Goals as goal

pub returns : goal.returns
returns c = lent text c.as_ref.result _ c.as_ref.ensures.value ∙ named (codes "HeartbeatSecondsPath") (option_map text c.args.self.now.limits.heartbeat_path) (task_members c.args.self.now) refl
