use Rattle.std.proofs.Common.{ap, sym, subst, ◌∙◌}
use Rattle.std.specs.Prelude.{is_some}
use Rattle.asl_def_judge.specs.private.Spots.{spot_of}
use Rattle.asl_def_schema.specs.Claims.{text_demands}
use Rattle.asl_def_judge.specs.private.Firsts.{Judges}
use Rattle.asl_def_judge.proofs.Answering.{supported_judged, named_judged, in_range_judged}
use Rattle.asl_def_judge.proofs.value.text_fault.Goals as goal

pub returns-in-KindName : goal.returns-in-KindName
returns-in-KindName c = subst (λ s. Judges (text_demands (spot_of c.args.spot) s c.args.text.now) c.unless.result) (sym c.in-KindName.is) (supported_judged _ c.is_some.result c.unless.result (c.is_some.ensures ∙ ap is_some c.kind_of.ensures) c.unless.ensures)

pub returns-in-Version : goal.returns-in-Version
returns-in-Version c = subst (λ s. Judges (text_demands (spot_of c.args.spot) s c.args.text.now) c.unless-in-Version.result) (sym c.in-Version.is) (supported_judged _ c.eq.result c.unless-in-Version.result c.eq.ensures c.unless-in-Version.ensures)

pub returns-in-QueryLanguage : goal.returns-in-QueryLanguage
returns-in-QueryLanguage c = subst (λ s. Judges (text_demands (spot_of c.args.spot) s c.args.text.now) c.unless-in-QueryLanguage.result) (sym c.in-QueryLanguage.is) (supported_judged _ c.eq-in-QueryLanguage.result c.unless-in-QueryLanguage.result c.eq-in-QueryLanguage.ensures c.unless-in-QueryLanguage.ensures)

pub returns-in-Mode : goal.returns-in-Mode
returns-in-Mode c = subst (λ s. Judges (text_demands (spot_of c.args.spot) s c.args.text.now) c.unless-in-Mode.result) (sym c.in-Mode.is) (supported_judged _ c.eq-in-Mode.result c.unless-in-Mode.result c.eq-in-Mode.ensures c.unless-in-Mode.ensures)

pub returns-in-Target : goal.returns-in-Target
returns-in-Target c = subst (λ s. Judges (text_demands (spot_of c.args.spot) s c.args.text.now) c.unless-in-Target.result) (sym c.in-Target.is) (named_judged _ c.contains.result c.unless-in-Target.result c.contains.ensures c.unless-in-Target.ensures)

pub returns-in-Jitter : goal.returns-in-Jitter
returns-in-Jitter c = subst (λ s. Judges (text_demands (spot_of c.args.spot) s c.args.text.now) c.unless-in-Jitter.result) (sym c.in-Jitter.is) (in_range_judged _ c.is_jitter.result c.unless-in-Jitter.result c.is_jitter.ensures c.unless-in-Jitter.ensures)
