use Rattle.std.proofs.Common.{◌≡◌, drop}
use Rattle.asl_json_data.specs.Data.{pairs}
use Rattle.asl_json.specs.View.{members_of}
use Rattle.asl_json.specs.Meaning.{value_at}
use Rattle.asl_def_schema.proofs.rows.find.Given as goal

abbrev pub invariant-loop-member : goal.invariant-loop-member
invariant-loop-member l = value_at l.name (pairs (members_of (drop l.member-index l.members))) ≡ value_at l.name (pairs (members_of l.members))
