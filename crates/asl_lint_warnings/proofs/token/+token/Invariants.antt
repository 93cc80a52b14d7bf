use Rattle.std.proofs.Common.{◌≡◌, ◌+◌, ◌*◌, drop}
use Rattle.asl_json_data.specs.Data.{pairs, chain, depth, members_depth, items_depth}
use Rattle.asl_json.specs.View.{data_of, items_of, members_of}
use Rattle.asl_lint_warnings.specs.Tokens.{items_have_token, members_have_token}
use Rattle.asl_lint_warnings.proofs.token.+token.Given as goal

abbrev pub decreases-has_token : goal.decreases-has_token
decreases-has_token l = 2 * depth (data_of l.value.now)

abbrev pub decreases-items_have_token : goal.decreases-items_have_token
decreases-items_have_token l = 2 * items_depth (chain l.items.now) + 1

abbrev pub decreases-members_have_token : goal.decreases-members_have_token
decreases-members_have_token l = 2 * members_depth (pairs l.members.now) + 1

abbrev pub invariant-items_have_token-loop-item : goal.invariant-items_have_token-loop-item
invariant-items_have_token-loop-item l = items_have_token (chain (items_of (drop l.item-index l.item-items))) ≡ items_have_token (chain (items_of l.item-items))

abbrev pub invariant-members_have_token-loop-member : goal.invariant-members_have_token-loop-member
invariant-members_have_token-loop-member l = members_have_token (pairs (members_of (drop l.member-index l.member-items))) ≡ members_have_token (pairs (members_of l.member-items))
