use Rattle.std.proofs.Common.{◌∙◌, refl, ap}
use Rattle.std.specs.Prelude.{codes}
use Rattle.asl_def_schema.specs.declared.sort.Sort.TheVariants.{PathOrNull}
use Rattle.asl_def_schema.specs.declared.sort.Kind.TheVariants.{Choice as ChoiceKind}
use Rattle.asl_def_schema.specs.Members.{choice_rows}
use Rattle.asl_def_fields.specs.Readable.{IsPathOrNull}
use Rattle.asl_def_fields.proofs.Fitting.{path_or_null_fits}
use Rattle.asl_def_shared.specs.Built.{of_any_type}
use Rattle.asl_def_states.proofs.Canonical.{choice_shows}
use Rattle.asl_def_shared.proofs.Fits.{of_any, member_fits}
use Rattle.std.specs.Prelude.{option_map}
use Rattle.asl_json_data.specs.Data.{pairs}
use Rattle.asl_json.specs.View.{data_of}
use Rattle.asl_def_schema.specs.declared.sort.Sort.TheVariants.{Rules, Target}
use Rattle.asl_def_schema.proofs.Required.{choice_rules}
use Rattle.asl_def_shared.proofs.Fits.{none_there, some_there, found_fits}
use Rattle.asl_def_states.proofs.choice.Choice.read.Goals as goal

pub unreachable-requires : goal.unreachable-requires
unreachable-requires c = none_there c.requires.names Rules _ _ (ap (option_map (λ v. data_of v.now)) c.in_default.is) c.find.ensures (choice_rules c.requires.names (pairs c.args.members.now) c.requires.inside)

pub read-requires : goal.read-requires
read-requires c = of_any of_any_type ChoiceKind c.args.members.now refl c.requires

pub read-requires-2 : goal.read-requires-2
unfolding choice_rows
read-requires-2 c = member_fits ChoiceKind c.args.members.now (codes "InputPath") PathOrNull IsPathOrNull _ refl path_or_null_fits c.requires c.find-2.ensures

pub read-requires-3 : goal.read-requires-3
unfolding choice_rows
read-requires-3 c = some_there c.requires.names Rules _ _ (data_of c.in-Some.choices.now) (ap (option_map (λ v. data_of v.now)) c.in-Some.is) c.find.ensures (choice_rules c.requires.names (pairs c.args.members.now) c.requires.inside)

pub read_optional-requires : goal.read_optional-requires
unfolding choice_rows
read_optional-requires c = found_fits ChoiceKind c.args.members.now (codes "Default") Target _ refl c.requires c.find-3.ensures

pub read-requires-4 : goal.read-requires-4
unfolding choice_rows
read-requires-4 c = member_fits ChoiceKind c.args.members.now (codes "OutputPath") PathOrNull IsPathOrNull _ refl path_or_null_fits c.requires c.find-4.ensures

pub returns : goal.returns
returns c = choice_shows c.args.members.now _ (data_of c.in-Some.choices.now) c.requires c.in_ok-read.ensures.comment c.in_ok-read.ensures.language (c.in_ok-read-2.ensures ∙ c.find-2.ensures) c.in_ok-read-3.ensures (rw c.in-Some.is at c.find.ensures) (c.in_ok-read_optional.ensures ∙ c.find-3.ensures) (c.in_ok-read-4.ensures ∙ c.find-4.ensures)
