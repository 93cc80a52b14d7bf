use Rattle.std.proofs.Common.{◌≡◌, ◌∙◌, None, Some, ap, codes}
use Rattle.std.specs.Result.{result_ok}
use Rattle.asl_json.specs.View.{data_of}
use Rattle.asl_def_fields.specs.Shown.{path_shown}
use Rattle.asl_def_states.specs.Show.{choice_object}
use Rattle.asl_step.specs.declared.facts.Facts.{Facts}
use Rattle.asl_step.specs.Context.{context_of}
use Rattle.asl_step.specs.Records.{entering_with}
use Rattle.asl_step.specs.Seen.{seen}
use Rattle.asl_step_io.specs.Paths.{taken}
use Rattle.asl_trace.specs.Deciding.{first_rule}
use Rattle.asl_trace.proofs.Ruling.{rules_decide, none_decides, taken_alike}
use Rattle.asl_trace.proofs.deciding.by_rules.Goals as goal

pub returns-clause-deciding : goal.returns-clause-deciding
returns-clause-deciding c =
    let v = seen c.args.visit.now in
    let k = context_of c.args.context.now.facts v in
    let x = c.in-Some.input.now in
    let shown = ap data_of c.shown.ensures ∙ c.in_ok-show.ensures.shown ∙ ap (λ (f : Facts). context_of f v) c.taken-effective.ensures.facts in
    let is : Some c.in-Some-2.value ≡ result_ok (taken (codes "InputPath") (path_shown c.input_path-path.result.now) x k) = rw c.in-Some-2.is at c.in_ok-value.ensures (taken (codes "InputPath") (path_shown c.input_path-path.result.now) x k) c.taken-effective.ensures.given in
    c.first_rule.ensures
    ∙ (λ i. first_rule 0 (c.as_slice-rules.ensures i) (data_of (c.get.ensures i)) (data_of c.shown.result.now))
    ∙ rules_decide (choice_object c.args.choice.now) x c.in-Some-2.value (entering_with c.args.visit.now.current.now) k (data_of c.shown.result.now) c.choices.result.now c.in-Some.ensures (is ∙ ap result_ok (taken_alike _ _ x k c.input_path-path.ensures)) c.choices.ensures shown

pub returns-in_default-2-clause-deciding : goal.returns-in_default-2-clause-deciding
returns-in_default-2-clause-deciding c =
    let k = context_of c.args.context.now.facts (seen c.args.visit.now) in
    let x = c.in-Some.input.now in
    let is : None ≡ result_ok (taken (codes "InputPath") (path_shown c.input_path-path.result.now) x k) = rw c.in_default-2.is at c.in_ok-value.ensures (taken (codes "InputPath") (path_shown c.input_path-path.result.now) x k) c.taken-effective.ensures.given in
    none_decides (choice_object c.args.choice.now) x (entering_with c.args.visit.now.current.now) k c.in-Some.ensures (is ∙ ap result_ok (taken_alike _ _ x k c.input_path-path.ensures))
