use Rattle.std.proofs.Common.{◌+◌, ◌*◌, drop}
use Rattle.asl_json.specs.View.{data_of}
use Rattle.asl_json_data.specs.Data.{chain, pairs, depth, items_depth, members_depth}
use Rattle.asl_json.proofs.Sounding.{ItemsGo, MembersGo}
use Rattle.asl_json.proofs.sound.+sound.Given as goal

abbrev pub decreases-items_are_sound : goal.decreases-items_are_sound
decreases-items_are_sound l = 2 * items_depth (chain l.items.now) + 1

abbrev pub decreases-every_value_is_sound : goal.decreases-every_value_is_sound
decreases-every_value_is_sound l = 2 * depth (data_of l.value.now)

abbrev pub decreases-members_are_sound : goal.decreases-members_are_sound
decreases-members_are_sound l = 2 * members_depth (pairs l.members.now) + 1

abbrev pub invariant-items_are_sound-loop-value : goal.invariant-items_are_sound-loop-value
invariant-items_are_sound-loop-value l = ItemsGo (drop l.value-index l.values) l.values

abbrev pub invariant-members_are_sound-loop-member : goal.invariant-members_are_sound-loop-member
invariant-members_are_sound-loop-member l = MembersGo (drop l.member-index l.pairs) l.pairs
