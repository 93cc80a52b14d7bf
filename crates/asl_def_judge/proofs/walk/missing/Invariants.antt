use Rattle.std.proofs.Common.{◌+◌, drop}
use Rattle.asl_json_data.specs.Data.{pairs}
use Rattle.asl_json.specs.View.{members_of}
use Rattle.asl_json.specs.Meaning.{count}
use Rattle.asl_def_schema.specs.Claims.{row_claims}
use Rattle.asl_def_schema.specs.private.Code.{rows_of}
use Rattle.asl_def_judge.proofs.Walking.{Goes}
use Rattle.asl_def_judge.proofs.walk.missing.Given as goal

abbrev pub invariant-loop-i : goal.invariant-loop-i
invariant-loop-i l = let ms = pairs (members_of l.members) in Goes (row_claims (count ms + l.i) (rows_of (drop l.i l.rows)) ms) (row_claims (count ms) (rows_of l.rows) ms) l.best
