use Rattle.std.proofs.Common.{ap, arith, List, ℕ}
use Rattle.asl_json_data.specs.Data.{Data, chain, pairs, items_depth, members_depth}
use Rattle.asl_json.proofs.Sounding.{item_depth, member_depth}
use Rattle.asl_explore.proofs.clock.+way_to.Goals as goal

pub way_among-way_to-requires : goal.way_among-way_to-requires
way_among-way_to-requires t c = (omega (arith, item_depth c.values-values.result.now c.loop-number.number c.index-values-number.result c.loop-number-test.true c.index-values-number.is, ap (λ (ds : List Data). items_depth (chain ds)) c.values-values.ensures), tt)

pub way_in-way_to-requires : goal.way_in-way_to-requires
way_in-way_to-requires t c = (omega (arith, member_depth c.members-pairs.result.now c.loop-member.member-index c.member-item.result c.loop-member-test.true c.member-item.is, ap (λ (vs : List (List ℕ × Data)). members_depth (pairs vs)) c.members-pairs.ensures.members), tt)
