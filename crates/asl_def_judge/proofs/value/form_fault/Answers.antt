use Rattle.std.proofs.Common.{◌∷◌, [], refl, sym, ap, ◌∙◌, subst}
use Rattle.asl_json.specs.View.{data_of}
use Rattle.asl_def_schema.specs.Demands.{form_of, is_of, typed, object}
use Rattle.asl_def_schema.specs.Claims.{form_demand}
use Rattle.asl_def_judge.specs.private.Firsts.{Judges}
use Rattle.asl_def_schema.specs.declared.fault.FaultKind.TheVariants as kind
use Rattle.asl_def_judge.proofs.Answering.{judged}
use Rattle.asl_def_judge.proofs.Forms.{typed_form}
use Rattle.asl_def_judge.proofs.value.form_fault.Goals as goal

pub returns-in-Definition : goal.returns-in-Definition
returns-in-Definition c =
    let d = data_of c.args.value.now in
    let e = c.is_of-fits.ensures ∙ ap (λ f. is_of f d) (c.form_of.ensures ∙ ap form_of c.in-Definition.is) in
    subst (λ s. Judges (form_demand s d ∷ []) c.unless.result) (sym c.in-Definition.is) (judged (object d) _ c.unless.result kind.NotObject (λ h. sym e ∙ h) (λ h. e ∙ h) refl c.unless.ensures)

pub returns-in_default : goal.returns-in_default
returns-in_default c =
    let d = data_of c.args.value.now in
    let e = c.is_of-fits.ensures ∙ ap (λ f. is_of f d) c.form_of.ensures in
    subst (λ q. Judges (q ∷ []) c.unless-in_default.result) (sym (typed_form c.args.sort d c.in_default.not-Definition)) (judged (typed (form_of c.args.sort) d) _ c.unless-in_default.result kind.WrongType (λ h. sym e ∙ h) (λ h. e ∙ h) refl c.unless-in_default.ensures)
