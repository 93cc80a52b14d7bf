use Rattle.std.proofs.Common.{◌+◌, ◌*◌, take}
use Rattle.asl_json_data.specs.Data.{pairs, chain, depth, items_depth, members_depth}
use Rattle.asl_json.specs.View.{data_of, members_of, items_of}
use Rattle.asl_def.proofs.Builds.{IsOnTheWay, AreBuilt}
use Rattle.asl_def.proofs.build.+build.Given as goal

abbrev pub decreases-state : goal.decreases-state
decreases-state l = 3 * depth (data_of l.value.now)

abbrev pub decreases-parallel : goal.decreases-parallel
decreases-parallel l = 3 * members_depth (pairs l.members.now) + 2

abbrev pub decreases-map : goal.decreases-map
decreases-map l = 3 * members_depth (pairs l.members.now) + 2

abbrev pub decreases-bodies : goal.decreases-bodies
decreases-bodies l = 3 * items_depth (chain l.machines.now) + 1

abbrev pub decreases-body : goal.decreases-body
decreases-body l = 3 * members_depth (pairs l.members.now) + 2

abbrev pub decreases-states : goal.decreases-states
decreases-states l = 3 * members_depth (pairs l.states.now) + 1

abbrev pub invariant-bodies-loop-value : goal.invariant-bodies-loop-value
invariant-bodies-loop-value l = AreBuilt l.fn.table l.table (items_of (take l.value-index l.values)) l.bodies.items

abbrev pub invariant-states-loop-member : goal.invariant-states-loop-member
invariant-states-loop-member l = IsOnTheWay l.fn.table l.table (members_of (take l.member-index l.members)) l.own.items
