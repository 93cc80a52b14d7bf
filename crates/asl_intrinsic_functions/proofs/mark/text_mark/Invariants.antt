use Rattle.std.proofs.Common.{◌≡◌, ◌<◌, drop}
use Rattle.asl_intrinsic_functions.specs.declared.mark.TheConstants.{MODULUS, TEXT}
use Rattle.asl_intrinsic_functions.specs.private.Marks.{text_mark}
use Rattle.asl_intrinsic_functions.proofs.mark.text_mark.Given as goal

abbrev pub invariant-loop-byte : goal.invariant-loop-byte
invariant-loop-byte l = (text_mark l.mark (drop l.byte-index l.byte-items) ≡ text_mark TEXT l.text) × (l.mark < MODULUS)
