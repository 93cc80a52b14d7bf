use Rattle.std.proofs.Common.{refl, ◌∙◌}
use Rattle.std.specs.Prelude.{codes}
use Rattle.asl_def_shared.proofs.Names.{named}
use Rattle.asl_def_shared.proofs.Owning.{copied}
use Rattle.asl_def_states.specs.Show.{task_members}
use Rattle.asl_def_states.proofs.task.Task.parameters.Goals as goal

pub returns : goal.returns
returns c = copied c.as_ref.result _ c.as_ref.ensures.value ∙ named (codes "Parameters") c.args.self.now.parameters (task_members c.args.self.now) refl
