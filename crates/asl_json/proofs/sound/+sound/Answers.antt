use Rattle.std.proofs.Common.{ap, subst, arith, List, ℕ}
use Rattle.asl_json_data.specs.Data.{Data, chain, pairs, items_depth, members_depth}
use Rattle.asl_json.specs.View.{data_of}
use Rattle.asl_json.specs.Sound.{KeysDifferInItems, KeysDifferInMembers, AreSoundItems, AreSoundMembers}
use Rattle.asl_json.proofs.Sounding.{items_go, items_gone, members_go, members_gone, object_differs, item_depth, member_depth}
use Rattle.asl_json.proofs.sound.+sound.Goals as goal

pub items_are_sound-every_value_is_sound-requires : goal.items_are_sound-every_value_is_sound-requires
items_are_sound-every_value_is_sound-requires t c = (omega (arith, item_depth c.values-values.result.now c.loop-value.value-index c.value-item.result c.loop-value-test.true c.value-item.is, ap (λ (ds : List Data). items_depth (chain ds)) c.values-values.ensures), tt)

pub items_are_sound-loop-value-preserved : goal.items_are_sound-loop-value-preserved
items_are_sound-loop-value-preserved t c = items_go c.values-values.result.now c.loop-value.value-index c.value-item.result c.loop-value-test.true c.value-item.is c.every_value_is_sound.ensures.keys c.every_value_is_sound.ensures.sound c.loop-value.invariant

pub items_are_sound-returns-clause-keys : goal.items_are_sound-returns-clause-keys
items_are_sound-returns-clause-keys t c = subst (λ (ds : List Data). KeysDifferInItems (chain ds)) c.values-values.ensures (items_gone c.values-values.result.now c.loop-value.value-index c.loop-value-test.false c.loop-value.invariant).0

pub items_are_sound-returns-clause-sound : goal.items_are_sound-returns-clause-sound
items_are_sound-returns-clause-sound t c = subst (λ (ds : List Data). AreSoundItems (chain ds)) c.values-values.ensures (items_gone c.values-values.result.now c.loop-value.value-index c.loop-value-test.false c.loop-value.invariant).1

pub every_value_is_sound-returns-in-Dict-clause-keys : goal.every_value_is_sound-returns-in-Dict-clause-keys
every_value_is_sound-returns-in-Dict-clause-keys t c = object_differs (data_of c.args.value.now) c.in-Dict.members (ap data_of c.in-Dict.is) c.members_are_sound.ensures.distinct c.members_are_sound.ensures.keys

pub members_are_sound-every_value_is_sound-requires : goal.members_are_sound-every_value_is_sound-requires
members_are_sound-every_value_is_sound-requires t c = (omega (arith, member_depth c.members-pairs.result.now c.loop-member.member-index c.member-item.result c.loop-member-test.true c.member-item.is, ap (λ (vs : List (List ℕ × Data)). members_depth (pairs vs)) c.members-pairs.ensures.members), tt)

pub members_are_sound-loop-member-preserved : goal.members_are_sound-loop-member-preserved
members_are_sound-loop-member-preserved t c = members_go c.members-pairs.result.now c.loop-member.member-index c.member-item.result c.loop-member-test.true c.member-item.is c.is_utf8.ensures c.every_value_is_sound.ensures.keys c.every_value_is_sound.ensures.sound c.loop-member.invariant

pub members_are_sound-returns-clause-keys : goal.members_are_sound-returns-clause-keys
members_are_sound-returns-clause-keys t c = subst (λ (vs : List (List ℕ × Data)). KeysDifferInMembers (pairs vs)) c.members-pairs.ensures.members (members_gone c.members-pairs.result.now c.loop-member.member-index c.loop-member-test.false c.loop-member.invariant).0

pub members_are_sound-returns-clause-sound : goal.members_are_sound-returns-clause-sound
members_are_sound-returns-clause-sound t c = subst (λ (vs : List (List ℕ × Data)). AreSoundMembers (pairs vs)) c.members-pairs.ensures.members (members_gone c.members-pairs.result.now c.loop-member.member-index c.loop-member-test.false c.loop-member.invariant).1
