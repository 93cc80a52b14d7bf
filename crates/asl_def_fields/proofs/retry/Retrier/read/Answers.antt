use Rattle.std.proofs.Common.{◌∙◌, sym, subst, ap, refl}
use Rattle.std.specs.Prelude.{Option, Some, IfSome}
use Rattle.asl_json_data.specs.Data.{Data}
use Rattle.asl_json.specs.View.{data_of}
use Rattle.asl_def_schema.specs.declared.sort.Sort.TheVariants.{Text, FromOne, FromZero, Rate, DelayLimit, Jitter, ErrorNames}
use Rattle.asl_def_fields.specs.Readable.{IsText, IsCount, IsRate, IsDelayLimit, IsJitter}
use Rattle.asl_def_fields.proofs.Fitting.{fit, text_fits, from_one_fits, from_zero_fits, rate_fits, delay_limit_fits, jitter_fits}
use Rattle.asl_def_fields.proofs.Items.{names_fit}
use Rattle.asl_def_fields.proofs.Retrying.{comment_fits, interval_fits, attempts_fit, backoff_fits, limit_fits, jitter_fits as jitter_there, errors_there, not_none, value_there, retrier_shows}
use Rattle.asl_def_fields.proofs.retry.Retrier.read.Goals as goal

pub unreachable-requires : goal.unreachable-requires
unreachable-requires c = not_none ErrorNames _ (rw c.in_default.is at c.get.ensures) (errors_there (data_of c.args.value.now) c.requires)

pub read_optional-requires : goal.read_optional-requires
read_optional-requires c = subst (λ (o : Option Data). IfSome o IsText) (sym c.get-2.ensures) (fit Text IsText (λ d. text_fits Text d refl) _ (comment_fits (data_of c.args.value.now) c.requires))

pub read-requires : goal.read-requires
read-requires c = names_fit c.in-Some.errors.now (value_there ErrorNames _ (data_of c.in-Some.errors.now) (rw c.in-Some.is at c.get.ensures) (errors_there (data_of c.args.value.now) c.requires))

pub read_optional-requires-2 : goal.read_optional-requires-2
read_optional-requires-2 c = subst (λ (o : Option Data). IfSome o IsCount) (sym c.get-3.ensures) (fit FromOne IsCount from_one_fits _ (interval_fits (data_of c.args.value.now) c.requires))

pub read_optional-requires-3 : goal.read_optional-requires-3
read_optional-requires-3 c = subst (λ (o : Option Data). IfSome o IsCount) (sym c.get-4.ensures) (fit FromZero IsCount from_zero_fits _ (attempts_fit (data_of c.args.value.now) c.requires))

pub read_optional-requires-4 : goal.read_optional-requires-4
read_optional-requires-4 c = subst (λ (o : Option Data). IfSome o IsRate) (sym c.get-5.ensures) (fit Rate IsRate rate_fits _ (backoff_fits (data_of c.args.value.now) c.requires))

pub read_optional-requires-5 : goal.read_optional-requires-5
read_optional-requires-5 c = subst (λ (o : Option Data). IfSome o IsDelayLimit) (sym c.get-6.ensures) (fit DelayLimit IsDelayLimit delay_limit_fits _ (limit_fits (data_of c.args.value.now) c.requires))

pub read_optional-requires-6 : goal.read_optional-requires-6
read_optional-requires-6 c = subst (λ (o : Option Data). IfSome o IsJitter) (sym c.get-7.ensures) (fit Jitter IsJitter jitter_fits _ (jitter_there (data_of c.args.value.now) c.requires))

pub returns : goal.returns
returns c = retrier_shows (data_of c.args.value.now) _ c.requires (c.in_ok-read_optional.ensures ∙ c.get-2.ensures) (ap Some c.in_ok-read.ensures ∙ rw c.in-Some.is at c.get.ensures) (c.in_ok-read_optional-2.ensures ∙ c.get-3.ensures) (c.in_ok-read_optional-3.ensures ∙ c.get-4.ensures) (c.in_ok-read_optional-4.ensures ∙ c.get-5.ensures) (c.in_ok-read_optional-5.ensures ∙ c.get-6.ensures) (c.in_ok-read_optional-6.ensures ∙ c.get-7.ensures)
