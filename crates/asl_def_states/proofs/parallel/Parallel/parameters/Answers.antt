use Rattle.std.proofs.Common.{refl, ◌∙◌}
use Rattle.std.specs.Prelude.{codes}
use Rattle.asl_def_shared.proofs.Names.{named}
use Rattle.asl_def_shared.proofs.Owning.{copied}
use Rattle.asl_def_states.specs.Show.{parallel_members}
use Rattle.asl_def_states.proofs.parallel.Parallel.parameters.Goals as goal

pub returns : goal.returns
returns c t = copied c.as_ref.result _ c.as_ref.ensures.value ∙ named (codes "Parameters") c.args.self.now.parameters (parallel_members t c.args.self.now) refl
