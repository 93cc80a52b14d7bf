use Rattle.std.proofs.Common.{◌∙◌, refl}
use Rattle.std.specs.Prelude.{codes}
use Rattle.asl_def_schema.specs.declared.sort.Sort.TheVariants.{PathOrNull, Template}
use Rattle.asl_def_schema.specs.declared.sort.Kind.TheVariants.{Parallel as ParallelKind}
use Rattle.asl_def_schema.specs.Members.{parallel_rows}
use Rattle.asl_def_schema.proofs.Templates.{is_template}
use Rattle.asl_template.specs.Faults.{IsTemplate}
use Rattle.asl_def_fields.specs.Readable.{IsPathOrNull}
use Rattle.asl_def_fields.proofs.Fitting.{path_or_null_fits}
use Rattle.asl_def_shared.specs.Built.{of_any_type, has_completion}
use Rattle.asl_def_states.proofs.Canonical.{parallel_shows}
use Rattle.asl_def_shared.proofs.Fits.{of_any, member_fits}
use Rattle.asl_def_states.proofs.parallel.Parallel.read.Goals as goal

pub read-requires : goal.read-requires
read-requires c = of_any of_any_type ParallelKind c.args.members.now refl c.requires

pub read-requires-2 : goal.read-requires-2
unfolding parallel_rows
read-requires-2 c = member_fits ParallelKind c.args.members.now (codes "InputPath") PathOrNull IsPathOrNull _ refl path_or_null_fits c.requires c.find.ensures

pub read_optional-requires : goal.read_optional-requires
unfolding parallel_rows
read_optional-requires c = member_fits ParallelKind c.args.members.now (codes "Parameters") Template IsTemplate _ refl is_template c.requires c.find-2.ensures

pub read-requires-3 : goal.read-requires-3
read-requires-3 c = of_any has_completion ParallelKind c.args.members.now refl c.requires

pub returns-clause-object : goal.returns-clause-object
returns-clause-object c = λ t e. parallel_shows t c.args.members.now _ c.requires c.in_ok-read.ensures.comment c.in_ok-read.ensures.language (c.in_ok-read-2.ensures ∙ c.find.ensures) (c.in_ok-read_optional.ensures ∙ c.find-2.ensures) e c.in_ok-read-3.ensures
