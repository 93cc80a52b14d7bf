use Rattle.std.proofs.Common.{refl}
use Rattle.std.specs.Prelude.{codes}
use Rattle.asl_def_shared.proofs.Names.{named}
use Rattle.asl_def_fields.specs.Shown.{path_shown}
use Rattle.asl_def_states.specs.Show.{map_members}
use Rattle.asl_def_states.proofs.map.Map.input_path.Goals as goal

pub returns : goal.returns
returns c t = named (codes "InputPath") (path_shown c.args.self.now.input_path) (map_members t c.args.self.now) refl
