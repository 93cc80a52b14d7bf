use Rattle.std.proofs.Common.{◌∙◌, sym, arith}
use Rattle.asl_json_data.specs.Data.{list, chain}
use Rattle.asl_json.specs.Same.{equal}
use Rattle.asl_def_fields.proofs.Lists.{other_length}
use Rattle.asl_def_shared.specs.Bodies.{bodies_of, body_of, processor_of}
use Rattle.asl_def.proofs.Walks.{body_within}
use Rattle.asl_def.proofs.Alike.{other_count, other_name, other_state, goes_on, not_same, same_parallel, same_map, same_alone}
use Rattle.asl_def.proofs.equal.+equal.Goals as goal

pub equals_bodies-returns-then-bodies-others : goal.equals_bodies-returns-then-bodies-others
equals_bodies-returns-then-bodies-others t c = other_length (body_of c.args.table.now) (body_of c.args.other_table.now) c.args.bodies.now c.args.others.now c.if-bodies-others.true

pub equals_bodies-equals_body-requires : goal.equals_bodies-equals_body-requires
equals_bodies-equals_body-requires t c =
    let within = body_within c.args.number c.args.bodies.now c.loop-i.i c.index-bodies-i.result c.requires.within (omega (arith, c.loop-i-test.true)) c.index-bodies-i.is in
    let other_within = body_within c.args.other_number c.args.others.now c.loop-i.i c.index-others-i.result c.requires.other_within (omega (arith, c.loop-i-test.true, c.if-bodies-others.false)) c.index-others-i.is in
    (omega (arith, within), (omega (arith, within, c.requires.inside), omega (arith, other_within, c.requires.other_inside)))

pub equals_state-returns-then-not-is_same_but_machines : goal.equals_state-returns-then-not-is_same_but_machines
equals_state-returns-then-not-is_same_but_machines t c = not_same c.args.table.now c.args.other_table.now c.args.state.now c.args.other.now (sym c.is_same_but_machines.ensures ∙ c.if-not-is_same_but_machines.true)

pub equals_state-returns-in-Parallel-Parallel : goal.equals_state-returns-in-Parallel-Parallel
equals_state-returns-in-Parallel-Parallel t c =
    c.equals_bodies.ensures
    ∙ (λ i. equal (list (chain (bodies_of c.args.table.now (c.as_slice.ensures.value i)))) (list (chain (bodies_of c.args.other_table.now (c.as_slice-in-Parallel-Parallel.ensures.value i)))))
    ∙ same_parallel c.args.table.now c.args.other_table.now c.args.state.now c.args.other.now c.in-Parallel-Parallel.parallel c.in-Parallel-Parallel.its c.in-Parallel-Parallel.is-0 c.in-Parallel-Parallel.is-1 (sym c.is_same_but_machines.ensures ∙ c.if-not-is_same_but_machines.false)

pub equals_state-returns-in-Map-Map : goal.equals_state-returns-in-Map-Map
equals_state-returns-in-Map-Map t c =
    c.equals_body.ensures
    ∙ (λ i. equal (processor_of c.args.table.now (c.config.ensures i) (c.machine.ensures i)) (processor_of c.args.other_table.now (c.config-in-Map-Map.ensures i) (c.machine-in-Map-Map.ensures i)))
    ∙ same_map c.args.table.now c.args.other_table.now c.args.state.now c.args.other.now c.in-Map-Map.map c.in-Map-Map.its c.in-Map-Map.is-0 c.in-Map-Map.is-1 (sym c.is_same_but_machines.ensures ∙ c.if-not-is_same_but_machines.false)

pub equals_state-returns-in_default-3 : goal.equals_state-returns-in_default-3
equals_state-returns-in_default-3 t c = same_alone c.args.table.now c.args.other_table.now c.args.state.now c.args.other.now c.in_default.not-Parallel-0 c.in_default.not-Map-0 (sym c.is_same_but_machines.ensures ∙ c.if-not-is_same_but_machines.false)

pub equals_states-returns-then-count-other_count : goal.equals_states-returns-then-count-other_count
equals_states-returns-then-count-other_count t c = other_count c.args.table.now c.args.other_table.now c.args.first c.args.count c.args.other_first c.args.other_count c.requires.within c.requires.other_within c.if-count-other_count.true

pub equals_states-returns-then-not-are_one_name : goal.equals_states-returns-then-not-are_one_name
equals_states-returns-then-not-are_one_name t c =
    other_name c.args.table.now c.args.other_table.now c.args.first c.args.other_first c.args.count c.args.other_count c.loop-i.i _ _ _ c.loop-i-test.true (omega (arith, c.loop-i-test.true, c.if-count-other_count.false)) c.in-Some.ensures.some c.in-Some-at.ensures.some c.loop-i.invariant (sym c.are_one_name.ensures ∙ c.if-not-are_one_name.true)

pub equals_states-returns-then-not-equals_state : goal.equals_states-returns-then-not-equals_state
equals_states-returns-then-not-equals_state t c =
    other_state c.args.table.now c.args.other_table.now c.args.first c.args.other_first c.args.count c.args.other_count c.loop-i.i _ _ _ c.loop-i-test.true (omega (arith, c.loop-i-test.true, c.if-count-other_count.false)) c.in-Some.ensures.some c.in-Some-at.ensures.some c.loop-i.invariant (sym c.equals_state.ensures ∙ c.if-not-equals_state.true)

pub equals_states-loop-i-preserved : goal.equals_states-loop-i-preserved
equals_states-loop-i-preserved t c =
    goes_on c.args.table.now c.args.other_table.now c.args.first c.args.other_first c.args.count c.args.other_count c.loop-i.i _ _ _ c.loop-i-test.true (omega (arith, c.loop-i-test.true, c.if-count-other_count.false)) c.in-Some.ensures.some c.in-Some-at.ensures.some c.loop-i.invariant (sym c.are_one_name.ensures ∙ c.if-not-are_one_name.false) (sym c.equals_state.ensures ∙ c.if-not-equals_state.false)
