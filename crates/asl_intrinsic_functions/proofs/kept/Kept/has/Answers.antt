use Rattle.std.proofs.Common.{◌≡◌, ◌<◌, true, false, [], length, sym, ap, subst, ◌∙◌, ℕ, List, arith}
use Rattle.std.specs.Prelude.{Option}
use Rattle.std.specs.List.{list_any}
use Rattle.asl_json_data.specs.Data.{Data}
use Rattle.asl_json.specs.Meaning.{same}
use Rattle.asl_json.specs.View.{data_of, items_of}
use Rattle.asl_intrinsic_functions.specs.private.Links.{latest_of}
use Rattle.asl_intrinsic_functions.proofs.Linking.{left_count, left_start, left_none, left_next, left_falls, met, met_within, met_same, links_count, items_count}
use Rattle.asl_intrinsic_functions.proofs.kept.Kept.has.Goals as goal

pub loop-next-init : goal.loop-next-init
loop-next-init c = left_start (data_of c.args.item.now) c.copied-next.result (items_of c.self.inside.items.items) (c.copied-next.ensures ∙ c.get.ensures.value ∙ c.self.invariant.from_mark c.args.item_mark ∙ ap (λ (m : ℕ). latest_of m (items_of c.self.inside.items.items)) c.requires)

pub index-requires : goal.index-requires
index-requires c = omega (arith, met_within (data_of c.args.item.now) c.in-Some.at (items_of c.self.inside.items.items) (met (data_of c.args.item.now) c.loop-next.next c.in-Some.at (items_of c.self.inside.items.items) c.in-Some.is c.self.invariant.apart c.loop-next.invariant), items_count c.self.inside.items.items)

pub returns-then-same : goal.returns-then-same
returns-then-same c = sym (subst (λ (ds : List Data). list_any (λ y. same y (data_of c.args.item.now)) ds ≡ true) c.self.view_is (met_same (data_of c.args.item.now) c.in-Some.at c.self.inside.items.items c.index.result.now c.same.result (met (data_of c.args.item.now) c.loop-next.next c.in-Some.at (items_of c.self.inside.items.items) c.in-Some.is c.self.invariant.apart c.loop-next.invariant) c.index.ensures c.same.ensures c.if-same.true))

pub index-next-requires : goal.index-next-requires
index-next-requires c = omega (arith, met_within (data_of c.args.item.now) c.in-Some.at (items_of c.self.inside.items.items) (met (data_of c.args.item.now) c.loop-next.next c.in-Some.at (items_of c.self.inside.items.items) c.in-Some.is c.self.invariant.apart c.loop-next.invariant), ap length c.self.invariant.from_item, links_count [] (items_of c.self.inside.items.items))

pub loop-next-smaller : goal.loop-next-smaller
loop-next-smaller c = subst (λ (o : Option ℕ). left_count c.index-next.result.now < left_count o) (sym c.in-Some.is) (left_falls (data_of c.args.item.now) c.in-Some.at c.self.inside.items.items c.self.inside.links.items c.index-next.result.now (met (data_of c.args.item.now) c.loop-next.next c.in-Some.at (items_of c.self.inside.items.items) c.in-Some.is c.self.invariant.apart c.loop-next.invariant) c.self.invariant.from_item c.index-next.ensures)

pub loop-next-preserved : goal.loop-next-preserved
loop-next-preserved c = left_next (data_of c.args.item.now) c.in-Some.at c.self.inside.items.items c.index.result.now c.self.inside.links.items c.index-next.result.now c.same.result (met (data_of c.args.item.now) c.loop-next.next c.in-Some.at (items_of c.self.inside.items.items) c.in-Some.is c.self.invariant.apart c.loop-next.invariant) c.index.ensures c.same.ensures c.if-same.false c.self.invariant.from_item c.index-next.ensures

pub returns : goal.returns
returns c = sym (subst (λ (ds : List Data). list_any (λ y. same y (data_of c.args.item.now)) ds ≡ false) c.self.view_is (left_none (data_of c.args.item.now) c.loop-next.next (items_of c.self.inside.items.items) c.in_default.is c.self.invariant.apart c.loop-next.invariant))
