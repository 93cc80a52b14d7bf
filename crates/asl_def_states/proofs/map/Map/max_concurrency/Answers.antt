use Rattle.std.proofs.Common.{refl, ◌∙◌}
use Rattle.std.specs.Prelude.{codes, option_map}
use Rattle.asl_def_shared.proofs.Names.{named, lent}
use Rattle.asl_json_data.specs.Data.{number}
use Rattle.asl_def_states.specs.Show.{map_members}
use Rattle.asl_def_states.proofs.map.Map.max_concurrency.Goals as goal

pub returns : goal.returns
returns c t = lent number c.as_ref.result _ c.as_ref.ensures.value ∙ named (codes "MaxConcurrency") (option_map number c.args.self.now.max_concurrency) (map_members t c.args.self.now) refl
