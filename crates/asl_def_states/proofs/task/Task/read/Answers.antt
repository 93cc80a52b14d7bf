use Rattle.std.proofs.Common.{◌∙◌, refl, ap}
use Rattle.std.specs.Prelude.{codes}
use Rattle.asl_def_schema.specs.declared.sort.Sort.TheVariants.{PathOrNull, Template, Text}
use Rattle.asl_def_schema.specs.declared.sort.Kind.TheVariants.{Task as TaskKind}
use Rattle.asl_def_schema.specs.Members.{task_rows}
use Rattle.asl_def_schema.proofs.Templates.{is_template}
use Rattle.asl_template.specs.Faults.{IsTemplate}
use Rattle.asl_def_fields.specs.Readable.{IsPathOrNull}
use Rattle.asl_def_fields.proofs.Fitting.{path_or_null_fits, text_fits}
use Rattle.asl_def_shared.specs.Built.{of_any_type, has_completion}
use Rattle.asl_def_states.proofs.Canonical.{task_shows}
use Rattle.asl_def_shared.proofs.Fits.{of_any, member_fits}
use Rattle.std.specs.Prelude.{Some, option_map}
use Rattle.asl_json_data.specs.Data.{pairs}
use Rattle.asl_json.specs.View.{data_of}
use Rattle.asl_def_schema.proofs.Required.{task_resource}
use Rattle.asl_def_shared.proofs.Fits.{none_there, some_there}
use Rattle.asl_def_states.proofs.task.Task.read.Goals as goal

pub unreachable-requires : goal.unreachable-requires
unreachable-requires c = none_there c.requires.names Text _ _ (ap (option_map (λ v. data_of v.now)) c.in_default.is) c.find.ensures (task_resource c.requires.names (pairs c.args.members.now) c.requires.inside)

pub read-requires : goal.read-requires
read-requires c = of_any of_any_type TaskKind c.args.members.now refl c.requires

pub read-requires-2 : goal.read-requires-2
unfolding task_rows
read-requires-2 c = text_fits Text (data_of c.in-Some.resource.now) refl (some_there c.requires.names Text _ _ (data_of c.in-Some.resource.now) (ap (option_map (λ v. data_of v.now)) c.in-Some.is) c.find.ensures (task_resource c.requires.names (pairs c.args.members.now) c.requires.inside))

pub read-requires-3 : goal.read-requires-3
unfolding task_rows
read-requires-3 c = member_fits TaskKind c.args.members.now (codes "InputPath") PathOrNull IsPathOrNull _ refl path_or_null_fits c.requires c.find-2.ensures

pub read_optional-requires : goal.read_optional-requires
unfolding task_rows
read_optional-requires c = member_fits TaskKind c.args.members.now (codes "Parameters") Template IsTemplate _ refl is_template c.requires c.find-3.ensures

pub read-requires-5 : goal.read-requires-5
read-requires-5 c = of_any has_completion TaskKind c.args.members.now refl c.requires

pub returns : goal.returns
returns c = task_shows c.args.members.now _ c.requires c.in_ok-read.ensures.comment c.in_ok-read.ensures.language (ap Some c.in_ok-read-2.ensures ∙ rw c.in-Some.is at c.find.ensures) (c.in_ok-read-3.ensures ∙ c.find-2.ensures) (c.in_ok-read_optional.ensures ∙ c.find-3.ensures) (c.in_ok-read_optional-2.ensures ∙ c.find-4.ensures) c.in_ok-read-4.ensures.timeout c.in_ok-read-4.ensures.timeout_path c.in_ok-read-4.ensures.heartbeat c.in_ok-read-4.ensures.heartbeat_path c.in_ok-read-5.ensures
