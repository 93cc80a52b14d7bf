use Rattle.std.proofs.Common.{◌∙◌, refl}
use Rattle.std.specs.Prelude.{codes}
use Rattle.asl_def_schema.specs.declared.sort.Sort.TheVariants.{PathOrNull}
use Rattle.asl_def_schema.specs.declared.sort.Kind.TheVariants.{Wait as WaitKind}
use Rattle.asl_def_schema.specs.Members.{wait_rows}
use Rattle.asl_def_schema.specs.Clean.{goes_on}
use Rattle.asl_def_fields.specs.Readable.{IsPathOrNull}
use Rattle.asl_def_fields.proofs.Fitting.{path_or_null_fits}
use Rattle.asl_def_shared.specs.Built.{of_any_type}
use Rattle.asl_def_states.proofs.Canonical.{wait_shows}
use Rattle.asl_def_shared.proofs.Fits.{of_any, member_fits}
use Rattle.asl_def_states.proofs.wait.Wait.read.Goals as goal

pub read-requires : goal.read-requires
read-requires c = of_any of_any_type WaitKind c.args.members.now refl c.requires

pub read-requires-2 : goal.read-requires-2
unfolding wait_rows
read-requires-2 c = member_fits WaitKind c.args.members.now (codes "InputPath") PathOrNull IsPathOrNull _ refl path_or_null_fits c.requires c.find.ensures

pub read-requires-4 : goal.read-requires-4
unfolding wait_rows
read-requires-4 c = member_fits WaitKind c.args.members.now (codes "OutputPath") PathOrNull IsPathOrNull _ refl path_or_null_fits c.requires c.find-2.ensures

pub read-requires-5 : goal.read-requires-5
read-requires-5 c = of_any goes_on WaitKind c.args.members.now refl c.requires

pub returns : goal.returns
returns c = wait_shows c.args.members.now _ c.requires c.in_ok-read.ensures.comment c.in_ok-read.ensures.language (c.in_ok-read-2.ensures ∙ c.find.ensures) c.in_ok-read-3.ensures.seconds c.in_ok-read-3.ensures.seconds_path c.in_ok-read-3.ensures.timestamp c.in_ok-read-3.ensures.timestamp_path (c.in_ok-read-4.ensures ∙ c.find-2.ensures) c.in_ok-read-5.ensures.next c.in_ok-read-5.ensures.end
