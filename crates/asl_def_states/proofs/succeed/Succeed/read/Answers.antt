use Rattle.std.proofs.Common.{◌∙◌, refl}
use Rattle.std.specs.Prelude.{codes}
use Rattle.asl_def_schema.specs.declared.sort.Sort.TheVariants.{PathOrNull}
use Rattle.asl_def_schema.specs.declared.sort.Kind.TheVariants.{Succeed as SucceedKind}
use Rattle.asl_def_schema.specs.Members.{succeed_rows}
use Rattle.asl_def_fields.specs.Readable.{IsPathOrNull}
use Rattle.asl_def_fields.proofs.Fitting.{path_or_null_fits}
use Rattle.asl_def_shared.specs.Built.{of_any_type}
use Rattle.asl_def_states.proofs.Canonical.{succeed_shows}
use Rattle.asl_def_shared.proofs.Fits.{of_any, member_fits}
use Rattle.asl_def_states.proofs.succeed.Succeed.read.Goals as goal

pub read-requires : goal.read-requires
read-requires c = of_any of_any_type SucceedKind c.args.members.now refl c.requires

pub read-requires-2 : goal.read-requires-2
unfolding succeed_rows
read-requires-2 c = member_fits SucceedKind c.args.members.now (codes "InputPath") PathOrNull IsPathOrNull _ refl path_or_null_fits c.requires c.find.ensures

pub read-requires-3 : goal.read-requires-3
unfolding succeed_rows
read-requires-3 c = member_fits SucceedKind c.args.members.now (codes "OutputPath") PathOrNull IsPathOrNull _ refl path_or_null_fits c.requires c.find-2.ensures

pub returns : goal.returns
returns c = succeed_shows c.args.members.now _ c.requires c.in_ok-read.ensures.comment c.in_ok-read.ensures.language (c.in_ok-read-2.ensures ∙ c.find.ensures) (c.in_ok-read-3.ensures ∙ c.find-2.ensures)
