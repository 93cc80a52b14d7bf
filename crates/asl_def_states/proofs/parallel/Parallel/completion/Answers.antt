use Rattle.std.proofs.Common.{refl}
use Rattle.asl_def_shared.specs.Parts.{completion_members}
use Rattle.asl_def_states.specs.Show.{parallel_members}
use Rattle.asl_def_shared.specs.Member.{completion_names}
use Rattle.asl_def_shared.proofs.Owning.{tied}
use Rattle.asl_def_states.proofs.parallel.Parallel.completion.Goals as goal

pub returns : goal.returns
returns c t k among = tied completion_names (completion_members c.args.self.now.completion) (parallel_members t c.args.self.now) k among (refl, (refl, (refl, (refl, (refl, (refl, (refl, tt)))))))
