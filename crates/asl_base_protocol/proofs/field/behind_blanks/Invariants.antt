use Rattle.std.proofs.Common.{◌≡◌, length}
use Rattle.asl_base_protocol.specs.Fields.{behind_blanks}
use Rattle.asl_base_protocol.proofs.field.behind_blanks.Given as goal

abbrev pub invariant-loop-rest : goal.invariant-loop-rest
invariant-loop-rest l = behind_blanks l.rest ≡ behind_blanks l.bytes

abbrev pub decreases-loop-rest : goal.decreases-loop-rest
decreases-loop-rest l = length l.rest
