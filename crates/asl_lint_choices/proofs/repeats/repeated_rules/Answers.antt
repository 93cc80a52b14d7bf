use Rattle.std.proofs.Common.{◌∙◌, ◌+◌, ℕ, List, Some, cond, ap, sym, drop, string_bytes, arith}
use Rattle.std.specs.HashMap.{get_by_text}
use Rattle.std.specs.Str.{bytes_eq}
use Rattle.std.proofs.lemmas.Grind.{common_steps}
use Rattle.asl_json_data.specs.Distinct.{Members}
use Rattle.asl_lint_choices.specs.View.{all_asked, asked}
use Rattle.asl_lint_choices.specs.private.Texts.{first_with_text, or_later}
use Rattle.asl_lint_choices.proofs.Looking.{known_step, from_here}
use Rattle.asl_lint_choices.proofs.repeats.repeated_rules.Goals as goal

pub loop-rule-preserved : goal.loop-rule-preserved
loop-rule-preserved c =
    let cs = c.deref-condition-items.result.now in
    let n = c.loop-rule.rule in
    let condition = c.condition-item.result in
    let text = string_bytes c.in_ok-text.field-0 in
    let behind = all_asked (drop (n + 1) cs) in
    let here = from_here cs n condition c.loop-rule-test.true c.condition-item.is in (
      grind (arith, common_steps, here),
      λ t. known_step text t n (asked condition) behind (get_by_text c.loop-rule.numbers) (get_by_text c.number_of.new.numbers t) c.in_ok-text.ensures
          (c.in_ok-first.ensures.numbers t ∙ ap (λ (k : ℕ). cond (bytes_eq text t) (Some k) (get_by_text c.loop-rule.numbers t)) c.in_ok-first.ensures.number)
          ∙ ap (λ (ds : List Members). or_later (get_by_text c.loop-rule.numbers t) (first_with_text t n ds)) (sym here)
          ∙ c.loop-rule.invariant.1 t,
    )
