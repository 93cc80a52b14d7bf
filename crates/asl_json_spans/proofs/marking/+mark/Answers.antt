use Rattle.std.proofs.Common.{◌≡◌, ℕ, List, [], ◌∷◌, ◌++◌, length, refl, ap, ◌∙◌, arith}
use Rattle.std.proofs.lemmas.Bool.{eq-eqb}
use Rattle.asl_json_data.specs.Data.{Data, chain, pairs, items_depth, members_depth}
use Rattle.asl_json.specs.View.{data_of}
use Rattle.asl_json.proofs.Sounding.{item_depth, member_depth}
use Rattle.asl_json_spans.specs.declared.span.Span.{Span}
use Rattle.asl_json_spans.proofs.Making.{some_items, some_members, value_closed}
use Rattle.asl_json_spans.proofs.marking.+mark.Goals as goal

pub mark_items-loop-item-init : goal.mark_items-loop-item-init
mark_items-loop-item-init t c =
    let vs = c.values-values.result.now in
    record { left = some_items vs c.args.bytes.now (λ z. let none = eq-eqb (length vs) 0 z in cc); added = refl }

pub mark_items-mark_value-requires : goal.mark_items-mark_value-requires
mark_items-mark_value-requires t c = (omega (arith, item_depth c.values-values.result.now c.loop-item.item-index c.item-item.result c.loop-item-test.true c.item-item.is, ap (λ (ds : List Data). items_depth (chain ds)) c.values-values.ensures), tt)

pub mark_members-loop-member-init : goal.mark_members-loop-member-init
mark_members-loop-member-init t c =
    let ms = c.members-pairs.result.now in
    record { left = some_members ms c.args.bytes.now (λ z. let none = eq-eqb (length ms) 0 z in cc); added = refl }

pub mark_members-mark_value-requires : goal.mark_members-mark_value-requires
mark_members-mark_value-requires t c = (omega (arith, member_depth c.members-pairs.result.now c.loop-member.member-index c.member-item.result c.loop-member-test.true c.member-item.is, ap (λ (vs : List (List ℕ × Data)). members_depth (pairs vs)) c.members-pairs.ensures.members), tt)

pub mark_value-returns-clause-nodes : goal.mark_value-returns-clause-nodes
mark_value-returns-clause-nodes t c =
    let old = c.args.nodes.now in
    let len = old.ok in
    let at : c.len-number.result ≡ length old.items = omega arith in
    let pushed = c.in_ok-push.ensures.items ∙ ap (λ (s : Span). old.items ++ record { key = c.args.key; value = s; size = 1 } ∷ []) c.span_of.ensures in
    value_closed c.args.len c.args.key (data_of c.args.value.now) c.args.bytes.now c.in_ok-rest.rest.now old.items c.push.new.self.items c.mark_inside.new.nodes.items c.close.new.nodes.items c.len-number.result c.saturating_sub.result 1 at pushed c.in_ok-rest.ensures.nodes c.in_ok-rest.ensures.behind c.saturating_sub.ensures c.close.ensures
