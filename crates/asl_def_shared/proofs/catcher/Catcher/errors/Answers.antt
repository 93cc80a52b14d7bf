use Rattle.std.proofs.Common.{refl}
use Rattle.std.specs.Prelude.{codes, Some}
use Rattle.asl_def_shared.proofs.Names.{named}
use Rattle.asl_def_fields.specs.Shown.{names_shown}
use Rattle.asl_def_shared.specs.Parts.{catcher_members}
use Rattle.asl_def_shared.proofs.catcher.Catcher.errors.Goals as goal

pub returns : goal.returns
returns c = named (codes "ErrorEquals") (Some (names_shown c.args.self.now.errors)) (catcher_members c.args.self.now) refl
