use Rattle.std.specs.Vec.Iter.{into_iter_items}
use Rattle.std.specs.Prelude.{◌++◌}
use Rattle.asl_def.specs.private.Built.{rows_in}
use Rattle.asl_def.proofs.Builds.{IsPushed}
use Rattle.asl_def.proofs.build.push_all.Given as goal

abbrev pub invariant-loop-row : goal.invariant-loop-row
invariant-loop-row l = IsPushed (l.fn.table ++ rows_in l.fn.table l.fn.own.items) l.table (into_iter_items l.row-iterator)
