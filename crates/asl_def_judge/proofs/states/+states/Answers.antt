use Rattle.std.proofs.Common.{◌≡◌, ◌∙◌, ◌++◌, ap, subst, arith, List, ℕ, ◌∷◌}
use Rattle.std.specs.Prelude.{IfOk}
use Rattle.asl_json_data.specs.Data.{Data, pairs, chain, members_depth, items_depth}
use Rattle.asl_json.specs.View.{data_of}
use Rattle.asl_def_schema.specs.private.Code.{shape_seen}
use Rattle.asl_def_schema.specs.Claims.{step}
use Rattle.asl_def_schema.specs.First.{IsFirst}
use Rattle.asl_def_schema.specs.Members.{sort_at}
use Rattle.asl_def_schema.specs.States.{Named, Finds, own_name, states_in, item_states, member_states, unique_claims}
use Rattle.asl_json.proofs.Sounding.{item_depth, member_depth}
use Rattle.asl_def_judge.proofs.Doubles.{continues-start, stopped, went_on, items_done, members_done, name_then, name_again, items_split, members_split}
use Rattle.asl_def_judge.proofs.states.+states.Goals as goal

pub with_items-loop-i-init : goal.with_items-loop-i-init
with_items-loop-i-init t c = λ ks h. continues-start ks c.args.seen _ h

pub with_items-with_states-requires : goal.with_items-with_states-requires
with_items-with_states-requires t c = (omega (arith, item_depth c.values-values.result.now c.loop-i.i c.index-values-i.result c.loop-i-test.true c.index-values-i.is, ap (λ (ds : List Data). items_depth (chain ds)) c.values-values.ensures), tt)

pub with_items-returns-in-Err : goal.with_items-returns-in-Err
with_items-returns-in-Err t c = λ ks h.
    let vs = c.values-values.result.now in
    subst (λ (ds : List Data). IsFirst (unique_claims ks (item_states c.args.sort 0 (chain ds))) c.in_ok-under_index-in-Err.field-0) c.values-values.ensures
    (stopped ks c.loop-i.seen _ _ _ _ _ c.in_ok-more.field-0 c.in-Err.fault c.in_ok-under_index-in-Err.field-0 (c.loop-i.invariant ks h) (items_split c.args.sort vs c.loop-i.i c.index-values-i.result c.loop-i-test.true c.index-values-i.is) c.in_ok-more.ensures c.in-Err.is c.in_ok-under_index-in-Err.ensures)

pub with_items-loop-i-preserved : goal.with_items-loop-i-preserved
with_items-loop-i-preserved t c = λ ks h.
    went_on ks c.loop-i.seen c.in-Ok.more _ _ _ _ _ c.in_ok-more.field-0 (c.loop-i.invariant ks h) (items_split c.args.sort c.values-values.result.now c.loop-i.i c.index-values-i.result c.loop-i-test.true c.index-values-i.is) c.in_ok-more.ensures c.in-Ok.is

pub with_items-returns : goal.with_items-returns
with_items-returns t c = λ ks h. items_done ks c.loop-i.seen c.args.sort c.values-values.result.now c.loop-i.i c.args.items.now c.loop-i-test.false c.values-values.ensures (c.loop-i.invariant ks h)

pub with_member-returns-in-Ok : goal.with_member-returns-in-Ok
with_member-returns-in-Ok t c = λ ks h.
    let d = data_of c.args.member.now.value in
    let sh = shape_seen c.args.shape in
    let k = c.as_str-key.ensures in
    let s = c.sort_at-sort.ensures ∙ ap (sort_at sh) k in
    let both : own_name c.sort_at-sort.result c.as_str-key.result.now ++ states_in c.sort_at-sort.result d ≡ own_name (sort_at sh c.args.member.now.key) c.args.member.now.key ++ states_in (sort_at sh c.args.member.now.key) d = λ i. own_name (s i) (k i) ++ states_in (s i) d in
    subst (λ (ns : List Named). IfOk c.with_states.result (Finds ks ns)) both (name_then ks c.in-Ok.seen (own_name c.sort_at-sort.result c.as_str-key.result.now) (states_in c.sort_at-sort.result d) c.in_ok-seen.field-0 c.with_states.result (c.in_ok-seen.ensures ks h) c.in-Ok.is c.with_states.ensures)

pub with_member-returns-in-Err : goal.with_member-returns-in-Err
with_member-returns-in-Err t c = λ ks h.
    let d = data_of c.args.member.now.value in
    let sh = shape_seen c.args.shape in
    let k = c.as_str-key.ensures in
    let s = c.sort_at-sort.ensures ∙ ap (sort_at sh) k in
    let both : own_name c.sort_at-sort.result c.as_str-key.result.now ++ states_in c.sort_at-sort.result d ≡ own_name (sort_at sh c.args.member.now.key) c.args.member.now.key ++ states_in (sort_at sh c.args.member.now.key) d = λ i. own_name (s i) (k i) ++ states_in (s i) d in
    subst (λ (ns : List Named). IsFirst (unique_claims ks ns) c.in-Err.fault) both (name_again ks (own_name c.sort_at-sort.result c.as_str-key.result.now) (states_in c.sort_at-sort.result d) c.in_ok-seen.field-0 c.in-Err.fault (c.in_ok-seen.ensures ks h) c.in-Err.is)

pub with_members-loop-i-init : goal.with_members-loop-i-init
with_members-loop-i-init t c = λ ks h. continues-start ks c.args.seen _ h

pub with_members-with_member-requires : goal.with_members-with_member-requires
with_members-with_member-requires t c = (omega (arith, member_depth c.members-pairs.result.now c.loop-i.i c.index-pairs-i.result c.loop-i-test.true c.index-pairs-i.is, ap (λ (vs : List (List ℕ × Data)). members_depth (pairs vs)) c.members-pairs.ensures.members), tt)

pub with_members-returns-in-Err : goal.with_members-returns-in-Err
with_members-returns-in-Err t c = λ ks h.
    let ms = c.members-pairs.result.now in
    subst (λ (xs : List (List ℕ × Data)). IsFirst (unique_claims ks (member_states (shape_seen c.args.shape) 0 (pairs xs))) c.in_ok-under-in-Err.field-0) c.members-pairs.ensures.members
    (stopped ks c.loop-i.seen _ _ _ _ _ c.in_ok-more.field-0 c.in-Err.fault c.in_ok-under-in-Err.field-0 (c.loop-i.invariant ks h) (members_split (shape_seen c.args.shape) ms c.loop-i.i c.index-pairs-i.result c.loop-i-test.true c.index-pairs-i.is) c.in_ok-more.ensures c.in-Err.is (c.in_ok-under-in-Err.ensures ∙ ap (λ k. (c.in-Err.fault.0, step c.loop-i.i k ∷ c.in-Err.fault.1)) c.as_str.ensures))

pub with_members-loop-i-preserved : goal.with_members-loop-i-preserved
with_members-loop-i-preserved t c = λ ks h.
    went_on ks c.loop-i.seen c.in-Ok.more _ _ _ _ _ c.in_ok-more.field-0 (c.loop-i.invariant ks h) (members_split (shape_seen c.args.shape) c.members-pairs.result.now c.loop-i.i c.index-pairs-i.result c.loop-i-test.true c.index-pairs-i.is) c.in_ok-more.ensures c.in-Ok.is

pub with_members-returns : goal.with_members-returns
with_members-returns t c = λ ks h. members_done ks c.loop-i.seen (shape_seen c.args.shape) c.members-pairs.result.now c.loop-i.i c.args.members.now c.loop-i-test.false c.members-pairs.ensures.members (c.loop-i.invariant ks h)
