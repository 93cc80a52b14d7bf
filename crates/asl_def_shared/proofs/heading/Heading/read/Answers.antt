use Rattle.std.proofs.Common.{◌∙◌, subst, sym, refl}
use Rattle.std.specs.Prelude.{Option, IfSome}
use Rattle.asl_json_data.specs.Data.{Data, pairs}
use Rattle.asl_def_schema.specs.declared.sort.Sort.TheVariants.{QueryLanguage, Version, FromOne}
use Rattle.asl_def_fields.specs.Readable.{IsText, IsCount}
use Rattle.asl_def_fields.proofs.Fitting.{fit, text_fits, from_one_fits}
use Rattle.asl_def_shared.proofs.Heads.{language_fits, version_fits, timeout_fits}
use Rattle.asl_def_shared.proofs.heading.Heading.read.Goals as goal

pub read_optional-requires : goal.read_optional-requires
read_optional-requires c = subst (λ (o : Option Data). IfSome o IsText) (sym c.find.ensures) (fit QueryLanguage IsText (λ d. text_fits QueryLanguage d refl) _ (language_fits (pairs c.args.members.now) c.requires))

pub read_optional-requires-2 : goal.read_optional-requires-2
read_optional-requires-2 c = subst (λ (o : Option Data). IfSome o IsText) (sym c.find-2.ensures) (fit Version IsText (λ d. text_fits Version d refl) _ (version_fits (pairs c.args.members.now) c.requires))

pub read_optional-requires-3 : goal.read_optional-requires-3
read_optional-requires-3 c = subst (λ (o : Option Data). IfSome o IsCount) (sym c.find-3.ensures) (fit FromOne IsCount from_one_fits _ (timeout_fits (pairs c.args.members.now) c.requires))

pub returns-clause-language : goal.returns-clause-language
returns-clause-language c = c.in_ok-read_optional.ensures ∙ c.find.ensures

pub returns-clause-version : goal.returns-clause-version
returns-clause-version c = c.in_ok-read_optional-2.ensures ∙ c.find-2.ensures

pub returns-clause-timeout : goal.returns-clause-timeout
returns-clause-timeout c = c.in_ok-read_optional-3.ensures ∙ c.find-3.ensures
