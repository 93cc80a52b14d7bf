use Rattle.std.proofs.Common.{◌∙◌, sym, subst, ap, refl}
use Rattle.std.specs.Prelude.{Option, Some, IfSome}
use Rattle.asl_json_data.specs.Data.{Data}
use Rattle.asl_json.specs.View.{data_of}
use Rattle.asl_def_schema.specs.declared.sort.Sort.TheVariants.{Text, PlaceOrNull, ErrorNames, Target}
use Rattle.asl_def_schema.specs.Clean.{IsThere}
use Rattle.asl_def_fields.specs.Readable.{IsText, IsPathOrNull}
use Rattle.asl_def_fields.proofs.Fitting.{fit, text_fits, place_or_null_fits}
use Rattle.asl_def_fields.proofs.Items.{names_fit}
use Rattle.asl_def_fields.proofs.Retrying.{not_none, value_there}
use Rattle.asl_def_shared.proofs.Catching.{comment_fits, place_fits, errors_there, next_there, catcher_shows}
use Rattle.asl_def_shared.proofs.catcher.Catcher.read.Goals as goal

pub unreachable-requires : goal.unreachable-requires
unreachable-requires c = not_none ErrorNames _ (rw c.in_default.is at c.get.ensures) (errors_there (data_of c.args.value.now) c.requires)

pub read_optional-requires : goal.read_optional-requires
read_optional-requires c = subst (λ (o : Option Data). IfSome o IsText) (sym c.get-2.ensures) (fit Text IsText (λ d. text_fits Text d refl) _ (comment_fits (data_of c.args.value.now) c.requires))

pub read-requires : goal.read-requires
read-requires c = names_fit c.in-Some.errors.now (value_there ErrorNames _ (data_of c.in-Some.errors.now) (rw c.in-Some.is at c.get.ensures) (errors_there (data_of c.args.value.now) c.requires))

pub read-requires-2 : goal.read-requires-2
read-requires-2 c = subst (λ (o : Option Data). IfSome o IsPathOrNull) (sym c.get-3.ensures) (fit PlaceOrNull IsPathOrNull place_or_null_fits _ (place_fits (data_of c.args.value.now) c.requires))

pub read-requires-3 : goal.read-requires-3
read-requires-3 c = subst (IsThere Target) (sym c.get-4.ensures) (next_there (data_of c.args.value.now) c.requires)

pub returns : goal.returns
returns c = catcher_shows (data_of c.args.value.now) _ c.requires (c.in_ok-read_optional.ensures ∙ c.get-2.ensures) (ap Some c.in_ok-read.ensures ∙ rw c.in-Some.is at c.get.ensures) (c.in_ok-read-2.ensures ∙ c.get-3.ensures) (c.in_ok-read-3.ensures ∙ c.get-4.ensures)
