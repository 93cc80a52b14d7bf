use Rattle.std.proofs.Common.{◌≡◌, ◌+◌, ◌*◌, ◌≤◌, take}
use Rattle.asl_json.specs.View.{items_of}
use Rattle.asl_def_shared.specs.Bodies.{bodies_of}
use Rattle.asl_def.proofs.Walks.{HasWalked}
use Rattle.asl_def.proofs.json.+json.Given as goal

-- the numbers fall: a machine's by its end, a state's by its own
abbrev pub decreases-body_json : goal.decreases-body_json
decreases-body_json l = 4 * (l.body.now.first + l.body.now.count) + 1

abbrev pub decreases-states_json : goal.decreases-states_json
decreases-states_json l = 4 * (l.first + l.count)

abbrev pub decreases-state_json : goal.decreases-state_json
decreases-state_json l = 4 * l.number + 3

abbrev pub decreases-bodies_json : goal.decreases-bodies_json
decreases-bodies_json l = 4 * l.number + 2

abbrev pub invariant-bodies_json-loop-body : goal.invariant-bodies_json-loop-body
invariant-bodies_json-loop-body l = items_of l.machines.items ≡ bodies_of l.table (take l.body-index l.bodies)

abbrev pub invariant-states_json-loop-number : goal.invariant-states_json-loop-number
invariant-states_json-loop-number l = HasWalked l.table l.first l.number l.members × (l.number ≤ l.end)
