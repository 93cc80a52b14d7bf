-- The texts of faults: number and name, and the place where it isn't the whole file.
use Rattle.std.specs.Prelude.{ℕ, List, ◌++◌, codes}
use Rattle.asl_json_read.specs.FaultText.{fault_text}
use Rattle.asl_json_write.specs.Pointers.{with_pointer}
use Rattle.asl_suite_file.specs.declared.fault.ExpectFault.{ExpectFault}
use Rattle.asl_suite_file.specs.declared.fault.ExpectFault.TheVariants.{Json, Shape, OutOfMemory}

abbrev pub expect_line : ExpectFault → List ℕ
expect_line (Json f) = codes "X1 Json " ++ fault_text f
expect_line (Shape p) = with_pointer (codes "X2 Shape") p
expect_line OutOfMemory = codes "X3 OutOfMemory"
