use Rattle.std.proofs.Common.{refl}
use Rattle.std.specs.Prelude.{codes, Some}
use Rattle.asl_def_fields.proofs.Names.{named}
use Rattle.asl_def_fields.specs.Shown.{names_shown, retrier_members}
use Rattle.asl_def_fields.proofs.retry.Retrier.errors.Goals as goal

pub returns : goal.returns
returns c = named (codes "ErrorEquals") (Some (names_shown c.args.self.now.errors)) (retrier_members c.args.self.now) refl
