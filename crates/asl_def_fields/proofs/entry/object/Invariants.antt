use Rattle.std.specs.Vec.Iter.{into_iter_items}
use Rattle.asl_def_fields.specs.Entries.{entries_of}
use Rattle.asl_def_fields.proofs.Making.{IsOnTheWay}
use Rattle.asl_def_fields.proofs.entry.object.Given as goal

abbrev pub invariant-loop-entry : goal.invariant-loop-entry
invariant-loop-entry l = IsOnTheWay (entries_of l.fn.entries.items) l.members (entries_of (into_iter_items l.entry-iterator))
