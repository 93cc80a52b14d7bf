use Rattle.std.proofs.Common.{◌≡◌, ◌+◌, ◌*◌, drop}
use Rattle.std.specs.Prelude.{map}
use Rattle.asl_json_data.specs.Data.{chain, pairs, depth, items_depth, members_depth}
use Rattle.asl_json.specs.View.{data_of, items_of, members_of}
use Rattle.asl_step_reads.specs.Mentions.{text_may_read}
use Rattle.asl_explore.specs.Clock.{way_among, way_in}
use Rattle.asl_explore.proofs.clock.+way_to.Given as goal

abbrev pub decreases-way_to : goal.decreases-way_to
decreases-way_to l = 2 * depth (data_of l.value.now)

abbrev pub decreases-way_among : goal.decreases-way_among
decreases-way_among l = 2 * items_depth (chain l.items.now) + 1

abbrev pub decreases-way_in : goal.decreases-way_in
decreases-way_in l = 2 * members_depth (pairs l.members.now) + 1

-- none of the texts so far may
abbrev pub invariant-way_among-loop-number : goal.invariant-way_among-loop-number
invariant-way_among-loop-number l = way_among (text_may_read (map (λ k. k.now) l.keys)) l.number (chain (items_of (drop l.number l.values))) ≡ way_among (text_may_read (map (λ k. k.now) l.keys)) 0 (chain (items_of l.values))

abbrev pub invariant-way_in-loop-member : goal.invariant-way_in-loop-member
invariant-way_in-loop-member l = way_in (text_may_read (map (λ k. k.now) l.keys)) (pairs (members_of (drop l.member-index l.pairs))) ≡ way_in (text_may_read (map (λ k. k.now) l.keys)) (pairs (members_of l.pairs))
