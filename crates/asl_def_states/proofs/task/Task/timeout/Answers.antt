use Rattle.std.proofs.Common.{refl, ◌∙◌}
use Rattle.std.specs.Prelude.{codes, option_map}
use Rattle.asl_def_shared.proofs.Names.{named, lent}
use Rattle.asl_json_data.specs.Data.{number}
use Rattle.asl_def_states.specs.Show.{task_members}
use Rattle.asl_def_states.proofs.task.Task.timeout.Goals as goal

pub returns : goal.returns
returns c = lent number c.as_ref.result _ c.as_ref.ensures.value ∙ named (codes "TimeoutSeconds") (option_map number c.args.self.now.limits.timeout) (task_members c.args.self.now) refl
