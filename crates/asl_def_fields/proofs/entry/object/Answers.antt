use Rattle.std.specs.Vec.Iter.{into_iter_items}
use Rattle.asl_def_fields.specs.Entries.{entries_of}
use Rattle.asl_def_fields.proofs.Making.{pushed}
use Rattle.asl_def_fields.proofs.entry.object.Goals as goal

pub loop-entry-preserved-in-Continue-branch-2 : goal.loop-entry-preserved-in-Continue-branch-2
loop-entry-preserved-in-Continue-branch-2 c = pushed (entries_of c.args.entries.items) c.loop-entry.members c.push.new.self c.in-Some.entry.name.now c.in_ok-name.name c.in-Some.entry.value c.in-Some-value.value (entries_of (into_iter_items c.next.new.self)) (rw c.in-Some.ensures.steps.0 at c.loop-entry.invariant) c.in-Some-value.is c.in_ok-name.ensures c.in_ok-push.ensures.ok
