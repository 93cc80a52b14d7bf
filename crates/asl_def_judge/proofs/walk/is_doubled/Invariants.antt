use Rattle.std.proofs.Common.{◌≡◌, drop}
use Rattle.asl_json.specs.View.{data_of, members_of}
use Rattle.asl_def_schema.specs.Claims.{is_doubled}
use Rattle.asl_def_schema.specs.private.Code.{groups_of}
use Rattle.asl_def_judge.proofs.walk.is_doubled.Given as goal

abbrev pub invariant-loop-group : goal.invariant-loop-group
invariant-loop-group l = is_doubled (groups_of (drop l.group-index l.groups)) (members_of l.before) l.member.key (data_of l.member.value) ≡ is_doubled (groups_of l.groups) (members_of l.before) l.member.key (data_of l.member.value)
