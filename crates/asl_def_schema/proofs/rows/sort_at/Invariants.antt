use Rattle.std.proofs.Common.{◌≡◌, drop}
use Rattle.asl_def_schema.specs.Members.{sort_in}
use Rattle.asl_def_schema.specs.private.Code.{rows_of}
use Rattle.asl_def_schema.proofs.rows.sort_at.Given as goal

abbrev pub invariant-loop-row : goal.invariant-loop-row
invariant-loop-row l = sort_in (rows_of (drop l.row-index l.row-items)) l.shape.others l.name ≡ sort_in (rows_of l.row-items) l.shape.others l.name
