use Rattle.std.proofs.Common.{◌≡◌, drop}
use Rattle.asl_json.specs.View.{members_of}
use Rattle.asl_intrinsic_functions.specs.private.Loops.{put_in}
use Rattle.asl_intrinsic_functions.specs.private.Places.{HasPlaces}
use Rattle.asl_intrinsic_functions.proofs.merge.put_all.Given as goal

abbrev pub invariant-loop-member : goal.invariant-loop-member
invariant-loop-member l = (put_in l.members (members_of (drop l.member-index l.more)) ≡ put_in l.fn.members (members_of l.more)) × HasPlaces l.places l.members
