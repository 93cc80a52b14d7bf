use Rattle.std.proofs.Common.{drop}
use Rattle.asl_json_data.specs.Data.{pairs}
use Rattle.asl_json.specs.View.{members_of}
use Rattle.asl_def_schema.specs.Claims.{heres, group_demands}
use Rattle.asl_def_schema.specs.private.Code.{groups_of}
use Rattle.asl_lint_faults.proofs.Going.{Goes}
use Rattle.asl_lint_faults.proofs.walk.group_faults.Given as goal

abbrev pub invariant-loop-group : goal.invariant-loop-group
invariant-loop-group l = Goes (heres (group_demands (groups_of (drop l.group-index l.groups)) (pairs (members_of l.members)))) (heres (group_demands (groups_of l.groups) (pairs (members_of l.members)))) l.told.items
