use Rattle.std.proofs.Common.{◌≡◌, ◌+◌, ◌*◌}
use Rattle.asl_def_shared.specs.Bodies.{body_of}
use Rattle.asl_def_fields.proofs.Lists.{rest_equal as bodies_rest}
use Rattle.asl_def.proofs.Alike.{rows, rest_equal}
use Rattle.asl_def.proofs.equal.+equal.Given as goal

-- the numbers fall: a machine's by its end, a state's by its own
abbrev pub decreases-equals_body : goal.decreases-equals_body
decreases-equals_body l = 4 * (l.body.now.first + l.body.now.count) + 1

abbrev pub decreases-equals_states : goal.decreases-equals_states
decreases-equals_states l = 4 * (l.first + l.count)

abbrev pub decreases-equals_state : goal.decreases-equals_state
decreases-equals_state l = 4 * l.number + 3

abbrev pub decreases-equals_bodies : goal.decreases-equals_bodies
decreases-equals_bodies l = 4 * l.number + 2

abbrev pub invariant-equals_bodies-loop-i : goal.invariant-equals_bodies-loop-i
invariant-equals_bodies-loop-i l = bodies_rest (body_of l.table) (body_of l.other_table) l.i l.bodies l.others ≡ bodies_rest (body_of l.table) (body_of l.other_table) 0 l.bodies l.others

abbrev pub invariant-equals_states-loop-i : goal.invariant-equals_states-loop-i
invariant-equals_states-loop-i l = rest_equal l.i (rows l.first l.count l.table) (rows l.other_first l.other_count l.other_table) ≡ rest_equal 0 (rows l.first l.count l.table) (rows l.other_first l.other_count l.other_table)
