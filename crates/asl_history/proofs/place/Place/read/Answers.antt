use Rattle.std.proofs.Common.{ap, Some, ◌∙◌, refl}
use Rattle.std.proofs.lemmas.Result.{IfOk-weaker}
use Rattle.asl_history.proofs.Steps.{root_only, no_root}
use Rattle.asl_history.proofs.place.Place.read.Goals as goal

pub returns-then-is_slash-clause-only : goal.returns-then-is_slash-clause-only
returns-then-is_slash-clause-only c = λ p s e. ap Some (c.root.ensures ∙ root_only c.args.text.now p (c.if-is_slash.ensures.0 refl) s e)

pub returns-clause-only : goal.returns-clause-only
returns-clause-only c =
    IfOk-weaker c.read_steps.result _ _ (λ o h p s e. h p s (c.as_bytes.ensures.value ∙ no_root c.args.text.now p (λ slash. let no = c.if-is_slash.ensures.1 slash in cc) e)) c.read_steps.ensures.only
