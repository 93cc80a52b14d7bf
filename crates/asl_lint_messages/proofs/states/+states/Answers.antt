use Rattle.std.proofs.Common.{◌∙◌, ◌++◌, ap, arith, List, ℕ}
use Rattle.asl_json_data.specs.Data.{Data, pairs, chain, members_depth, items_depth}
use Rattle.asl_json.proofs.Sounding.{item_depth, member_depth}
use Rattle.asl_lint_messages.specs.States.{Stated}
use Rattle.asl_lint_messages.proofs.Gathering.{items_gathered}
use Rattle.asl_lint_messages.proofs.states.+states.Goals as goal

pub item_states-states_in-requires : goal.item_states-states_in-requires
item_states-states_in-requires t c = (omega (arith, item_depth c.values-values.result.now c.loop-i.i c.index-values-i.result c.loop-i-test.true c.index-values-i.is, ap (λ (ds : List Data). items_depth (chain ds)) c.values-values.ensures), tt)

pub item_states-loop-i-preserved : goal.item_states-loop-i-preserved
item_states-loop-i-preserved t c =
    let now = c.loop-i.all.items in
    items_gathered c.args.sort c.values-values.result.now c.loop-i.i c.index-values-i.result now c.append.new.self.items c.in_ok-inside.inside.items _ c.loop-i-test.true c.index-values-i.is c.loop-i.invariant c.in_ok-inside.ensures (c.in_ok-append.ensures.items ∙ ap (λ (ns : List Stated). now ++ ns) c.in_ok-states.ensures)

pub member_states-states_at-requires : goal.member_states-states_at-requires
member_states-states_at-requires t c = (omega (arith, member_depth c.members-pairs.result.now c.loop-i.i c.index-pairs-i.result c.loop-i-test.true c.index-pairs-i.is, ap (λ (vs : List (List ℕ × Data)). members_depth (pairs vs)) c.members-pairs.ensures.members), tt)
