use Rattle.std.proofs.Common.{add-one, ap, sym, ◌∙◌, length, arith}
use Rattle.std.specs.Prelude.{slice_get}
use Rattle.indexmap.specs.IndexMap.{set_value_at}
use Rattle.asl_def_states.specs.Newer.{newer_state}
use Rattle.asl_def.proofs.NewerShown.{newer_next, newer_done, length-first, states_in}
use Rattle.asl_def.proofs.table.upgrade_all.Goals as goal

pub unreachable-requires : goal.unreachable-requires
unreachable-requires c =
    let long = ap (λ es. length es) c.loop-number.invariant ∙ length-first c.loop-number.number c.args.states.now.entries in
    absurd (let some = rw c.in_default.is at (c.get_index_mut.ensures.found.1 (omega (arith, c.loop-number-test.true, c.len-count.ensures.len, long))) in cc)

pub loop-number-preserved : goal.loop-number-preserved
loop-number-preserved c =
    let n = c.loop-number.number in
    let s = c.in-Some.state.now in
    let at_number = ap (λ es. slice_get (states_in es) n) (sym c.loop-number.invariant) ∙ sym (rw c.in-Some.is at c.get_index_mut.ensures.value) in
    rw (add-one n) (ap (set_value_at c.loop-number.states.entries n) c.upgrade.ensures ∙ ap (λ es. set_value_at es n (newer_state s)) c.loop-number.invariant ∙ newer_next n c.args.states.now.entries s at_number)

pub returns : goal.returns
returns c = c.loop-number.invariant ∙ newer_done c.loop-number.number c.args.states.now.entries (omega (arith, c.loop-number-test.false, c.len-count.ensures.len))
