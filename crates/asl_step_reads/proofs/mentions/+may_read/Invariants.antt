use Rattle.std.proofs.Common.{◌≡◌, ◌+◌, ◌*◌, drop}
use Rattle.std.specs.Prelude.{map}
use Rattle.asl_json_data.specs.Data.{chain, pairs, depth, items_depth, members_depth}
use Rattle.asl_json.specs.View.{data_of, items_of, members_of}
use Rattle.asl_step_reads.specs.Reading.{some_text_in, some_text_among}
use Rattle.asl_step_reads.specs.Mentions.{text_may_read}
use Rattle.asl_step_reads.proofs.mentions.+may_read.Given as goal

abbrev pub decreases-may_read : goal.decreases-may_read
decreases-may_read l = 2 * depth (data_of l.value.now)

abbrev pub decreases-some_item_may_read : goal.decreases-some_item_may_read
decreases-some_item_may_read l = 2 * items_depth (chain l.items.now) + 1

abbrev pub decreases-some_member_may_read : goal.decreases-some_member_may_read
decreases-some_member_may_read l = 2 * members_depth (pairs l.members.now) + 1

abbrev pub invariant-some_item_may_read-loop-value : goal.invariant-some_item_may_read-loop-value
invariant-some_item_may_read-loop-value l = some_text_in (text_may_read (map (λ k. k.now) l.keys)) (chain (items_of (drop l.value-index l.values))) ≡ some_text_in (text_may_read (map (λ k. k.now) l.keys)) (chain (items_of l.values))

abbrev pub invariant-some_member_may_read-loop-member : goal.invariant-some_member_may_read-loop-member
invariant-some_member_may_read-loop-member l = some_text_among (text_may_read (map (λ k. k.now) l.keys)) (pairs (members_of (drop l.member-index l.pairs))) ≡ some_text_among (text_may_read (map (λ k. k.now) l.keys)) (pairs (members_of l.pairs))
