use Rattle.std.proofs.Common.{◌∙◌, refl}
use Rattle.std.specs.Prelude.{codes}
use Rattle.asl_json.specs.View.{data_of}
use Rattle.asl_def_schema.specs.declared.sort.Sort.TheVariants.{FromZero, Path, PathOrNull, Template}
use Rattle.asl_def_schema.specs.declared.sort.Kind.TheVariants.{Map as MapKind}
use Rattle.asl_def_schema.specs.Members.{map_rows}
use Rattle.asl_def_fields.specs.Readable.{IsCount, IsPathOrNull, IsPathText}
use Rattle.asl_def_fields.proofs.Fitting.{from_zero_fits, path_fits, path_or_null_fits}
use Rattle.asl_def_shared.specs.Built.{of_any_type, has_completion}
use Rattle.asl_def_states.proofs.Canonical.{map_shows}
use Rattle.asl_def_shared.proofs.Fits.{of_any, member_fits, found_fits, selector_at_most}
use Rattle.asl_def_states.proofs.map.Map.read.Goals as goal

pub read-requires : goal.read-requires
read-requires c = of_any of_any_type MapKind c.args.members.now refl c.requires

pub read-requires-2 : goal.read-requires-2
unfolding map_rows
read-requires-2 c = member_fits MapKind c.args.members.now (codes "InputPath") PathOrNull IsPathOrNull _ refl path_or_null_fits c.requires c.find.ensures

pub read_optional-requires : goal.read_optional-requires
unfolding map_rows
read_optional-requires c = member_fits MapKind c.args.members.now (codes "ItemsPath") Path IsPathText _ refl path_fits c.requires c.find-2.ensures

pub read_optional-requires-2 : goal.read_optional-requires-2
unfolding map_rows
read_optional-requires-2 c = member_fits MapKind c.args.members.now (codes "MaxConcurrency") FromZero IsCount _ refl from_zero_fits c.requires c.find-3.ensures

pub read-requires-3-clause-parameters : goal.read-requires-3-clause-parameters
unfolding map_rows
read-requires-3-clause-parameters c = found_fits MapKind c.args.members.now (codes "Parameters") Template _ refl c.requires c.find-4.ensures

pub read-requires-3-clause-item_selector : goal.read-requires-3-clause-item_selector
unfolding map_rows
read-requires-3-clause-item_selector c = found_fits MapKind c.args.members.now (codes "ItemSelector") Template _ refl c.requires c.find-5.ensures

pub read-requires-3-clause-one : goal.read-requires-3-clause-one
read-requires-3-clause-one c = selector_at_most (λ v. data_of v.now) (λ v. data_of v.now) c.args.members.now _ _ c.requires c.find-4.ensures c.find-5.ensures

pub read-requires-4 : goal.read-requires-4
read-requires-4 c = of_any has_completion MapKind c.args.members.now refl c.requires

pub returns-clause-object : goal.returns-clause-object
returns-clause-object c = λ t e f. map_shows t c.args.members.now _ c.requires c.in_ok-read.ensures.comment c.in_ok-read.ensures.language (c.in_ok-read-2.ensures ∙ c.find.ensures) (c.in_ok-read_optional.ensures ∙ c.find-2.ensures) (c.in_ok-read_optional-2.ensures ∙ c.find-3.ensures) (c.in_ok-read-3.ensures.parameters ∙ c.find-4.ensures) (c.in_ok-read-3.ensures.item_selector ∙ c.find-5.ensures) e f c.in_ok-read-4.ensures
