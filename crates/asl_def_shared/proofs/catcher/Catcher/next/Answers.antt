use Rattle.std.proofs.Common.{refl}
use Rattle.std.specs.Prelude.{codes, Some}
use Rattle.asl_def_shared.proofs.Names.{named}
use Rattle.asl_json_data.specs.Data.{text}
use Rattle.asl_def_shared.specs.Parts.{catcher_members}
use Rattle.asl_def_shared.proofs.catcher.Catcher.next.Goals as goal

pub returns : goal.returns
returns c = named (codes "Next") (Some (text c.args.self.now.next.name)) (catcher_members c.args.self.now) refl
