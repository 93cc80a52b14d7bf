use Rattle.std.proofs.Common.{◌≡◌, drop}
use Rattle.asl_json.specs.View.{members_of}
use Rattle.asl_def_schema.specs.Claims.{any_counts}
use Rattle.asl_def_schema.specs.private.Code.{group_of}
use Rattle.asl_def_judge.proofs.walk.any_counts.Given as goal

abbrev pub invariant-loop-member : goal.invariant-loop-member
invariant-loop-member l = any_counts (group_of l.group) (members_of (drop l.member-index l.members)) ≡ any_counts (group_of l.group) (members_of l.members)
