-- The texts of faults: number and name, and the seat's number where there is one.
use Rattle.std.specs.Prelude.{ℕ, List, ◌++◌, codes}
use Rattle.std.specs.Fmt.{decimal}
use Rattle.asl_threads.specs.declared.shared.ApplyFault.{ApplyFault}
use Rattle.asl_threads.specs.declared.shared.ApplyFault.TheVariants as apply
use Rattle.asl_threads.specs.declared.closing.Cause.{Cause}
use Rattle.asl_threads.specs.declared.closing.Cause.TheVariants.{OtherSetup, Foreign, SeatMissing, Mismatch}

abbrev pub apply_line : ApplyFault → List ℕ
apply_line apply.Foreign = codes "H3 Foreign"
apply_line apply.OutOfMemory = codes "OutOfMemory"

abbrev pub cause_line : Cause → List ℕ
cause_line (SeatMissing k) = codes "H1 SeatMissing " ++ decimal k
cause_line (Mismatch k) = codes "H2 Mismatch " ++ decimal k
cause_line Foreign = codes "H3 Foreign"
cause_line OtherSetup = codes "H6 OtherSetup"
