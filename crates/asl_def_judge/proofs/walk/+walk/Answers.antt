use Rattle.std.proofs.Common.{◌+◌, ◌∙◌, ◌∷◌, ◌++◌, ap, sym, subst, arith, List, ℕ, [], length, take}
use Rattle.asl_json.specs.Keys.{Knows}
use Rattle.std.specs.Prelude.{nat_eq, option_map}
use Rattle.std.specs.HashSet.{contains_text}
use Rattle.asl_json_data.specs.Data.{Data, pairs, chain, members_depth, items_depth}
use Rattle.asl_json.specs.View.{data_of, members_of}
use Rattle.asl_def_schema.specs.private.Code.{shape_seen}
use Rattle.asl_def_judge.specs.private.Spots.{spot_of}
use Rattle.asl_def_schema.specs.Claims.{claims, item_claims, member_claims, heres, group_demands, step}
use Rattle.asl_def_schema.specs.First.{Answers, better}
use Rattle.asl_def_judge.specs.private.Firsts.{under_step}
use Rattle.asl_def_judge.proofs.Walking.{items_step, items_end, members_step, members_end, last_item, members_more}
use Rattle.asl_json.proofs.Sounding.{item_depth, member_depth}
use Rattle.asl_def_judge.proofs.Objects.{list_whole, object_whole, parts_answered}
use Rattle.asl_def_judge.proofs.Machines.{machine_inside}
use Rattle.asl_def_judge.proofs.walk.+walk.Goals as goal

pub check-returns-in_ok-inside-in-List : goal.check-returns-in_ok-inside-in-List
check-returns-in_ok-inside-in-List t c =
    list_whole (spot_of c.args.spot) c.args.sort c.item_sort.result (data_of c.args.value.now) (chain c.in-List.items) c.in_ok-own_fault.field-0 c.fault_here-own.result c.in_ok-inside-in-List.inside c.better.result c.is_list.result (ap data_of c.in-List.is) c.is_list.ensures c.if-not-is_list.false c.in_ok-own_fault.ensures c.fault_here-own.ensures c.item_sort.ensures c.in_ok-inside-in-List.ensures c.better.ensures

pub check-returns-in_ok-inside-in-Dict : goal.check-returns-in_ok-inside-in-Dict
check-returns-in_ok-inside-in-Dict t c =
    object_whole (spot_of c.args.spot) c.args.sort (data_of c.args.value.now) (pairs c.in-Dict.members) c.in_ok-own_fault.field-0 c.fault_here-own.result c.in_ok-inside-in-Dict.inside c.better-in-Dict.result c.is_object.result (ap data_of c.in-Dict.is) c.is_object.ensures c.if-not-is_object.false c.in_ok-own_fault.ensures c.fault_here-own.ensures c.in_ok-inside-in-Dict.ensures c.better-in-Dict.ensures

pub check_items-check-requires : goal.check_items-check-requires
check_items-check-requires t c = (omega (arith, item_depth c.values-values.result.now c.loop-i.i c.index-values-i.result c.loop-i-test.true c.index-values-i.is, ap (λ (ds : List Data). items_depth (chain ds)) c.values-values.ensures), tt)

pub check_items-loop-i-preserved : goal.check_items-loop-i-preserved
check_items-loop-i-preserved t c =
    let p = spot_of c.args.spot in
    let vs = c.values-values.result.now in
    let v = c.index-values-i.result in
    items_step p c.args.sort _ c.loop-i.best c.better-best.result c.in_ok-fault.fault vs c.loop-i.i v (nat_eq (c.loop-i.i + 1) (length vs)) c.loop-i-test.true c.index-values-i.is (last_item vs c.loop-i.i c.loop-i-test.true) c.loop-i.invariant
    (subst (λ q. Answers (claims q c.args.sort (data_of v)) c.in_ok-fault.fault) c.at_item.ensures c.in_ok-fault.ensures)
    (c.better-best.ensures ∙ ap (better c.loop-i.best) c.in_ok-under_index.ensures)

pub check_items-returns : goal.check_items-returns
check_items-returns t c =
    let p = spot_of c.args.spot in
    subst (λ (ds : List Data). Answers (item_claims p c.args.sort 0 (chain ds)) c.loop-i.best) c.values-values.ensures (items_end p c.args.sort _ c.loop-i.best c.values-values.result.now c.loop-i.i c.loop-i-test.false c.loop-i.invariant)

pub check_members-check_member-requires : goal.check_members-check_member-requires
check_members-check_member-requires t c = (omega (arith, member_depth c.members-pairs.result.now c.loop-i.i c.index-pairs-i.result c.loop-i-test.true c.index-pairs-i.is, ap (λ (vs : List (List ℕ × Data)). members_depth (pairs vs)) c.members-pairs.ensures.members), c.loop-i.invariant.1)

pub check_members-loop-i-preserved : goal.check_members-loop-i-preserved
check_members-loop-i-preserved t c =
    let m = c.index-pairs-i.result in
    let ms = c.members-pairs.result.now in
    let so_far = members_of (take c.loop-i.i ms) in (
      members_step (spot_of c.args.spot) (shape_seen c.args.shape) _ c.loop-i.best c.better-best.result c.in_ok-fault.fault ms c.loop-i.i m c.loop-i-test.true c.index-pairs-i.is c.loop-i.invariant.0 c.in_ok-fault.ensures
          (c.better-best.ensures ∙ ap (better c.loop-i.best) (c.in_ok-under_name.ensures ∙ ap (λ k. option_map (under_step (step c.loop-i.i k)) c.in_ok-fault.fault) c.as_str-key.ensures)),
      subst (Knows c.add.new.self) (ap (λ k. so_far ++ (k, data_of m.value) ∷ []) c.as_str-key.ensures ∙ sym (members_more ms c.loop-i.i m c.loop-i-test.true c.index-pairs-i.is)) (c.in_ok-add.ensures.ok (data_of m.value)),
    )

pub check_members-returns : goal.check_members-returns
check_members-returns t c =
    let p = spot_of c.args.spot in
    let sh = shape_seen c.args.shape in
    subst (λ (xs : List (List ℕ × Data)). Answers (member_claims p sh [] 0 (pairs xs)) c.loop-i.best) c.members-pairs.ensures.members (members_end p sh _ c.loop-i.best c.members-pairs.result.now c.loop-i.i c.loop-i-test.false c.loop-i.invariant.0)

pub check_inside-returns-in_ok-names-in-Definition : goal.check_inside-returns-in_ok-names-in-Definition
check_inside-returns-in_ok-names-in-Definition t c =
    machine_inside c.check_members.result (spot_of c.args.spot) (contains_text c.in_ok-names-in-Definition.names) c.one_deeper.result c.args.sort (shape_seen c.args.shape) (pairs c.args.members.now) (pairs (members_of c.members.result.now)) c.in-Definition.is (ap pairs c.members.ensures.members) c.in_ok-names-in-Definition.ensures c.one_deeper.ensures c.check_members.ensures

pub check_object-returns : goal.check_object-returns
check_object-returns t c =
    let p = spot_of c.args.spot in
    let xs = pairs (members_of c.members-pairs.result.now) in
    let sh = shape_seen c.shape_in-shape.result in
    parts_answered p c.args.sort sh xs (pairs c.args.members.now) c.fault_here-undecided.result c.in_ok-inside.inside c.in_ok-lacking.lacking c.better-2.result (ap pairs c.members-pairs.ensures.members) c.shape_in-shape.ensures
    (subst (Answers (heres (group_demands sh.groups xs))) (sym c.fault_here-undecided.ensures) c.group_fault.ensures) c.in_ok-inside.ensures c.in_ok-lacking.ensures (c.better-2.ensures ∙ ap (better c.fault_here-undecided.result) c.better.ensures)
