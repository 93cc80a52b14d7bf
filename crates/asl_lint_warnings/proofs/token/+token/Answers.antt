use Rattle.std.proofs.Common.{ap, List, ℕ, arith}
use Rattle.asl_json_data.specs.Data.{Data, pairs, chain, members_depth, items_depth}
use Rattle.asl_json.proofs.Sounding.{item_depth, member_depth}
use Rattle.asl_lint_warnings.proofs.token.+token.Goals as goal

pub items_have_token-has_token-requires : goal.items_have_token-has_token-requires
items_have_token-has_token-requires t c = omega (arith, item_depth c.values-item-items.result.now c.loop-item.item-index c.item-item.result c.loop-item-test.true c.item-item.is, ap (λ (ds : List Data). items_depth (chain ds)) c.values-item-items.ensures)

pub members_have_token-has_token-requires : goal.members_have_token-has_token-requires
members_have_token-has_token-requires t c = omega (arith, member_depth c.members-member-items.result.now c.loop-member.member-index c.member-item.result c.loop-member-test.true c.member-item.is, ap (λ (ms : List (List ℕ × Data)). members_depth (pairs ms)) c.members-member-items.ensures.members)
