use Rattle.std.proofs.Common.{refl}
use Rattle.std.specs.Prelude.{codes}
use Rattle.asl_def_shared.proofs.Names.{named}
use Rattle.asl_def_fields.specs.Shown.{path_shown}
use Rattle.asl_def_shared.specs.Parts.{completion_members}
use Rattle.asl_def_shared.proofs.completion.Completion.result_path.Goals as goal

pub returns : goal.returns
returns c = named (codes "ResultPath") (path_shown c.args.self.now.result_path) (completion_members c.args.self.now) refl
