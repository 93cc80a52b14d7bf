use Rattle.std.proofs.Common.{refl}
use Rattle.std.specs.Prelude.{codes}
use Rattle.asl_def_shared.proofs.Names.{named}
use Rattle.asl_def_fields.specs.Shown.{path_shown}
use Rattle.asl_def_states.specs.Show.{wait_members}
use Rattle.asl_def_states.proofs.wait.Wait.output_path.Goals as goal

pub returns : goal.returns
returns c = named (codes "OutputPath") (path_shown c.args.self.now.output_path) (wait_members c.args.self.now) refl
