use Rattle.std.proofs.Common.{◌≡◌, ℕ, List, [], ◌∷◌, length, drop, refl, sym, ap, ◌∙◌, arith}
use Rattle.std.specs.Prelude.{◌==◌}
use Rattle.std.proofs.Math.Dec.{eqb-suc-zero}
use Rattle.std.proofs.lemmas.List.{drop_all, length-map}
use Rattle.asl_json_data.specs.Data.{Data, no_items, chain}
use Rattle.asl_json.specs.Meaning.{same_items}
use Rattle.asl_json.specs.View.{data_of, items_of}
use Rattle.asl_history.specs.declared.event.Event.{Event}
use Rattle.asl_suite.specs.Cases.{inputs_of}
use Rattle.asl_suite.proofs.judging.is_called.Goals as goal

none_left : (ds : List Data) → (length ds == 0) ≡ same_items (chain ds) no_items
none_left [] = refl
none_left (d ∷ ds) = eqb-suc-zero (length ds)

pub returns : goal.returns
returns c =
    let es = c.args.events.now in
    let left = c.loop-event.left.now in
    let end : drop c.loop-event.event-index es ≡ [] = drop_all c.loop-event.event-index es (omega (arith, c.loop-event-test.false)) in
    c.is_empty.ensures ∙ ap (λ (n : ℕ). n == 0) (sym (length-map left data_of)) ∙ none_left (items_of left) ∙ sym (ap (λ (xs : List Event). same_items (chain (items_of left)) (chain (inputs_of c.args.wanted.now.state xs))) end) ∙ c.loop-event.invariant
