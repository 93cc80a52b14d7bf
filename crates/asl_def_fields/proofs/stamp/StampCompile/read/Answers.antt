use Rattle.std.proofs.Common.{ℕ, List, sym, subst}
use Rattle.asl_time.specs.Timestamp.{IsTimestamp}
use Rattle.asl_def_fields.proofs.stamp.StampCompile.read.Goals as goal

pub unreachable-requires-in_default-read_stamp : goal.unreachable-requires-in_default-read_stamp
unreachable-requires-in_default-read_stamp c =
    let h = rw c.in-Text.is at c.requires in
    c.in_default-read_stamp.not-Some h.moment (c.read_stamp.ensures.only h.moment (subst (λ (t : List ℕ). IsTimestamp t h.moment) (sym c.as_str.ensures) h.is_timestamp))
