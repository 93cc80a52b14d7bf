use Rattle.std.proofs.Common.{◌≡◌, ◌≤◌, ℕ, List, length, drop, ap, sym, subst, ◌∙◌, arith}
use Rattle.std.specs.Prelude.{IfOk}
use Rattle.std.proofs.lemmas.List.{drop_all}
use Rattle.asl_json_data.specs.Data.{Data, no_items, depth, items_depth, members_depth, chain, pairs}
use Rattle.asl_json_data.specs.Distinct.{Members}
use Rattle.asl_json.specs.View.{data_of, items_of}
use Rattle.asl_json.specs.declared.value.Json.{Json}
use Rattle.asl_json.proofs.Sounding.{item_depth, member_depth}
use Rattle.asl_suite_file.specs.Differences.{in_items}
use Rattle.asl_suite_file.specs.declared.difference.Difference.{Difference}
use Rattle.asl_suite_file.specs.declared.holding.Likeness.{Likeness}
use Rattle.asl_suite_file.proofs.difference.+descend.Goals as goal

pub in_lists-descend-requires : goal.in_lists-descend-requires
in_lists-descend-requires t c =
    let within : depth (data_of c.index-wanted-i.result) ≤ items_depth (chain c.args.wanted.now) = subst (λ (ds : List Data). depth (data_of c.index-wanted-i.result) ≤ items_depth (chain ds)) c.values-wanted.ensures (item_depth c.values-wanted.result.now c.loop-i.i c.index-wanted-i.result c.loop-i-test.true c.index-wanted-i.is) in
    (omega (arith, within), tt)

pub in_objects-descend-requires : goal.in_objects-descend-requires
in_objects-descend-requires t c =
    let within : depth (data_of c.member-item.result.value) ≤ members_depth (pairs c.args.wanted.now) = subst (λ (ms : Members). depth (data_of c.member-item.result.value) ≤ members_depth (pairs ms)) c.members-members.ensures.members (member_depth c.members-members.result.now c.loop-member.member-index c.member-item.result c.loop-member-test.true c.member-item.is) in
    (omega (arith, within), tt)

-- where the items that are wanted are all there, the next one of the others differs
rest : (f : Likeness) (p : List ℕ) (ds es : List Json) (i : ℕ) → length ds ≤ i → i ≤ length ds → in_items f p i (chain (items_of (drop i ds))) (chain (items_of (drop i es))) ≡ in_items f p (length ds) no_items (chain (items_of (drop (length ds) es)))
rest f p ds es i end within =
    let all : i ≡ length ds = omega arith in
    ap (λ (xs : List Json). in_items f p i (chain (items_of xs)) (chain (items_of (drop i es)))) (drop_all i ds end) ∙ ap (λ (n : ℕ). in_items f p n no_items (chain (items_of (drop n es)))) all

pub in_lists-returns : goal.in_lists-returns
in_lists-returns t c =
    let ds = c.values-wanted.result.now in
    let es = c.values-came.result.now in
    let all : in_items c.args.likeness c.args.place 0 (chain (items_of ds)) (chain (items_of es)) ≡ in_items c.args.likeness c.args.place (length ds) no_items (chain (items_of (drop (length ds) es))) = c.loop-i.invariant ∙ rest c.args.likeness c.args.place ds es c.loop-i.i (omega (arith, c.loop-i-test.false)) c.loop-i.auto.i-end in
    let own : in_items c.args.likeness c.args.place 0 (chain (items_of ds)) (chain (items_of es)) ≡ in_items c.args.likeness c.args.place 0 (chain c.args.wanted.now) (chain c.args.came.now) = ap (λ (xs : List Data). in_items c.args.likeness c.args.place 0 (chain xs) (chain (items_of es))) c.values-wanted.ensures ∙ ap (λ (xs : List Data). in_items c.args.likeness c.args.place 0 (chain c.args.wanted.now) (chain xs)) c.values-came.ensures in
    subst (λ (x : Difference). IfOk c.behind.result (λ y. y ≡ x)) (sym all ∙ own) c.behind.ensures
