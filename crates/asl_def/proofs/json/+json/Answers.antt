use Rattle.std.proofs.Common.{◌∙◌, add-one, arith}
use Rattle.std.specs.Prelude.{string_bytes}
use Rattle.asl_def_states.specs.Show.{state_of}
use Rattle.asl_def.proofs.Walks.{walk_begins, next_is_new, walk_goes_on, body_within}
use Rattle.asl_def.proofs.json.+json.Goals as goal

pub bodies_json-body_json-requires : goal.bodies_json-body_json-requires
bodies_json-body_json-requires t c =
    let within = body_within c.args.number c.args.bodies.now c.loop-body.body-index c.body-item.result c.requires.within c.loop-body-test.true c.body-item.is in
    (omega (arith, within), omega (arith, within, c.requires.inside))

pub states_json-loop-number-init : goal.states_json-loop-number-init
states_json-loop-number-init t c = (rw c.new-members.ensures (walk_begins c.args.table.now c.args.first (omega (arith, c.requires))), omega arith)

pub states_json-push-requires : goal.states_json-push-requires
states_json-push-requires t c = rw (c.in_ok-name.ensures ∙ c.as_str.ensures.value) (next_is_new c.args.table.now c.args.first c.loop-number.number c.loop-number.members (string_bytes c.in-Some.name.now, state_of c.args.table.now c.in-Some.state.now) c.names_differ.ensures c.loop-number.invariant.0 c.in-Some.ensures.some)

pub states_json-loop-number-preserved : goal.states_json-loop-number-preserved
states_json-loop-number-preserved t c =
    let goes_on = walk_goes_on c.args.table.now c.args.first c.loop-number.number c.loop-number.members c.push.new.self (string_bytes c.in-Some.name.now, state_of c.args.table.now c.in-Some.state.now) _ _ c.loop-number.invariant.0 c.in-Some.ensures.some (c.in_ok-name.ensures ∙ c.as_str.ensures.value) c.in_ok-state.ensures c.in_ok-push.ensures.ok in
    (rw (add-one c.loop-number.number) goes_on, omega (arith, c.loop-number-test.true))
