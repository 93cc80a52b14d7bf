use Rattle.std.proofs.Common.{◌≡◌, drop}
use Rattle.asl_step_reads.specs.Mentions.{behind as left_behind}
use Rattle.asl_step_reads.proofs.mentions.behind.Given as goal

abbrev pub invariant-loop-byte : goal.invariant-loop-byte
invariant-loop-byte l = left_behind (drop l.byte-index l.key) l.rest ≡ left_behind l.key l.bytes
