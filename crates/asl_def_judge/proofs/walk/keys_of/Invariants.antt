use Rattle.std.proofs.Common.{take}
use Rattle.asl_json.specs.View.{members_of}
use Rattle.asl_json.specs.Keys.{HasKeys}
use Rattle.asl_def_judge.proofs.walk.keys_of.Given as goal

abbrev pub invariant-loop-member : goal.invariant-loop-member
invariant-loop-member l = HasKeys l.keys (members_of (take l.member-index l.members))
