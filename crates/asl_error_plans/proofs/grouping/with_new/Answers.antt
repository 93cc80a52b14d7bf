use Rattle.std.proofs.Common.{◌∙◌, ap, sym, refl, Bor, List, ℕ}
use Rattle.std.specs.List.{list_any}
use Rattle.asl_json.specs.Same.{bytes_eq}
use Rattle.asl_error_plans.proofs.Known.{new_known, new_added}
use Rattle.asl_error_plans.proofs.grouping.with_new.Goals as goal

pub returns-then-has : goal.returns-then-has
returns-then-has c =
    let known = ap (list_any (λ (t : Bor (List ℕ)). bytes_eq t.now c.args.text.now)) (sym c.deref.ensures.value) ∙ sym c.has.ensures ∙ c.if-has.true in
    new_known (λ (t : Bor (List ℕ)). t.now) c.args.text.now c.args.texts.items known

pub returns : goal.returns
returns c =
    let new = ap (list_any (λ (t : Bor (List ℕ)). bytes_eq t.now c.args.text.now)) (sym c.deref.ensures.value) ∙ sym c.has.ensures ∙ c.if-has.false in
    new_added (λ (t : Bor (List ℕ)). t.now) c.args.text.now c.args.texts.items c.push.new.self.items c.args.text new c.in_ok-push.ensures.items refl
