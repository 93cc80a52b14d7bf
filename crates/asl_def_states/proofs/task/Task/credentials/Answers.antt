use Rattle.std.proofs.Common.{refl, ◌∙◌}
use Rattle.std.specs.Prelude.{codes, option_map}
use Rattle.asl_json.specs.View.{data_of}
use Rattle.asl_def_shared.proofs.Names.{named, lent}
use Rattle.asl_def_states.specs.Show.{task_members}
use Rattle.asl_def_states.proofs.task.Task.credentials.Goals as goal

pub returns : goal.returns
returns c = lent data_of c.as_ref.result _ c.as_ref.ensures.value ∙ named (codes "Credentials") (option_map data_of c.args.self.now.credentials) (task_members c.args.self.now) refl
