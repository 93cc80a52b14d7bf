use Rattle.std.proofs.Common.{◌++◌, ◌∷◌, ◌∙◌, ap, List, ℕ, arith}
use Rattle.std.specs.Fmt.{decimal}
use Rattle.std.specs.HashSet.{contains_text}
use Rattle.asl_json_data.specs.Data.{Data, pairs, chain, members_depth, items_depth}
use Rattle.asl_json.specs.View.{data_of, members_of}
use Rattle.asl_json.proofs.Sounding.{item_depth, member_depth}
use Rattle.asl_def_schema.specs.declared.sort.Sort.{Sort}
use Rattle.asl_def_schema.specs.Members.{sort_at}
use Rattle.asl_def_schema.specs.private.Code.{shape_seen}
use Rattle.asl_def_schema.specs.Claims.{step}
use Rattle.asl_lint_warnings.specs.Kinds.{noted}
use Rattle.asl_lint_warnings.specs.Warnings.{further, warnings}
use Rattle.asl_lint_warnings.specs.private.Spots.{spot_of}
use Rattle.asl_lint_warnings.proofs.Telling.{items_step, members_step}
use Rattle.asl_lint_warnings.proofs.walk.+walk.Goals as goal

pub tell_items-tell_value-requires : goal.tell_items-tell_value-requires
tell_items-tell_value-requires t c = (omega (arith, item_depth c.values-values.result.now c.loop-i.i c.index-values-i.result c.loop-i-test.true c.index-values-i.is, ap (λ (ds : List Data). items_depth (chain ds)) c.values-values.ensures), tt)

pub tell_items-loop-i-preserved : goal.tell_items-loop-i-preserved
tell_items-loop-i-preserved t c =
    items_step (spot_of c.args.spot) c.args.sort (contains_text c.loop-i.listed) (contains_text c.list_brought.new.listed) c.loop-i.told.items c.tell.new.told.items c.tell_value.new.told.items _ c.values-values.result.now c.loop-i.i c.index-values-i.result c.loop-i-test.true c.index-values-i.is c.loop-i.invariant
    (c.in_ok-tell.ensures ∙ ap (λ k. c.loop-i.told.items ++ noted (step c.loop-i.i (decimal c.loop-i.i) ∷ (spot_of c.args.spot).place) k) c.item_kind.ensures)
    (c.in_ok-tell_value.ensures ∙ ap (λ (s : Sort). c.tell.new.told.items ++ warnings (further (spot_of c.args.spot) (step c.loop-i.i (decimal c.loop-i.i))) s (data_of c.index-values-i.result)) c.item_sort.ensures)
    c.in_ok-list_brought.ensures

pub tell_members-tell_value-requires : goal.tell_members-tell_value-requires
tell_members-tell_value-requires t c = (omega (arith, member_depth c.members-pairs.result.now c.loop-i.i c.index-pairs-i.result c.loop-i-test.true c.index-pairs-i.is, ap (λ (vs : List (List ℕ × Data)). members_depth (pairs vs)) c.members-pairs.ensures.members), tt)

pub tell_members-loop-i-preserved : goal.tell_members-loop-i-preserved
tell_members-loop-i-preserved t c =
    let p = spot_of c.args.spot in
    let m = c.index-pairs-i.result in
    let key = c.as_str.result.now in
    members_step p c.args.sort (shape_seen c.shape_in-shape.result) (pairs (members_of c.members-pairs.result.now)) key c.loop-i.told.items c.tell_beside.new.told.items c.tell_value.new.told.items _ c.members-pairs.result.now c.loop-i.i m c.loop-i-test.true c.index-pairs-i.is c.as_str.ensures c.loop-i.invariant
    c.in_ok-tell_beside.ensures
    (c.in_ok-tell_value.ensures ∙ ap (λ (s : Sort). c.tell_beside.new.told.items ++ warnings (further p (step c.loop-i.i key)) s (data_of m.value)) (c.sort_at-sort.ensures ∙ ap (λ (k : List ℕ). sort_at (shape_seen c.shape_in-shape.result) k) c.as_str-in-loop-i.ensures))
