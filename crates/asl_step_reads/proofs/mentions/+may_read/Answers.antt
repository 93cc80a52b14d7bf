use Rattle.std.proofs.Common.{ap, arith, List, ℕ}
use Rattle.asl_json_data.specs.Data.{Data, chain, pairs, items_depth, members_depth}
use Rattle.asl_json.proofs.Sounding.{item_depth, member_depth}
use Rattle.asl_step_reads.proofs.mentions.+may_read.Goals as goal

pub some_item_may_read-may_read-requires : goal.some_item_may_read-may_read-requires
some_item_may_read-may_read-requires t c = (omega (arith, item_depth c.values-values.result.now c.loop-value.value-index c.value-item.result c.loop-value-test.true c.value-item.is, ap (λ (ds : List Data). items_depth (chain ds)) c.values-values.ensures), tt)

pub some_member_may_read-may_read-requires : goal.some_member_may_read-may_read-requires
some_member_may_read-may_read-requires t c = (omega (arith, member_depth c.members-pairs.result.now c.loop-member.member-index c.member-item.result c.loop-member-test.true c.member-item.is, ap (λ (vs : List (List ℕ × Data)). members_depth (pairs vs)) c.members-pairs.ensures.members), tt)
