use Rattle.std.proofs.Common.{◌∙◌, refl}
use Rattle.asl_def_schema.specs.declared.sort.Sort.TheVariants.{Text, QueryLanguage}
use Rattle.asl_def_fields.specs.Readable.{IsText}
use Rattle.asl_def_fields.proofs.Fitting.{text_fits}
use Rattle.asl_def_shared.proofs.Fits.{comment_fits, language_fits}
use Rattle.asl_def_shared.proofs.common.Common.read.Goals as goal

pub read_optional-requires : goal.read_optional-requires
read_optional-requires c = comment_fits c.args.members.now IsText _ (λ d. text_fits Text d refl) c.requires c.find.ensures

pub read_optional-requires-2 : goal.read_optional-requires-2
read_optional-requires-2 c = language_fits c.args.members.now IsText _ (λ d. text_fits QueryLanguage d refl) c.requires c.find-2.ensures

pub returns-clause-comment : goal.returns-clause-comment
returns-clause-comment c = c.in_ok-read_optional.ensures ∙ c.find.ensures

pub returns-clause-language : goal.returns-clause-language
returns-clause-language c = c.in_ok-read_optional-2.ensures ∙ c.find-2.ensures
