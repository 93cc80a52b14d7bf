use Rattle.std.proofs.Common.{refl, ◌∙◌}
use Rattle.std.specs.Prelude.{codes, option_map}
use Rattle.asl_def_shared.proofs.Names.{named, lent}
use Rattle.asl_json_data.specs.Data.{text}
use Rattle.asl_def_states.specs.Show.{parallel_members}
use Rattle.asl_def_states.proofs.parallel.Parallel.comment.Goals as goal

pub returns : goal.returns
returns c t = lent text c.as_ref.result _ c.as_ref.ensures.value ∙ named (codes "Comment") (option_map text c.args.self.now.common.comment) (parallel_members t c.args.self.now) refl
