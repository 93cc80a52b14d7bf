-- The texts of faults: number and name, and the place where it isn't the whole file.
use Rattle.std.specs.Prelude.{ℕ, List, ◌++◌, codes}
use Rattle.asl_json_read.specs.FaultText.{fault_text}
use Rattle.asl_json_write.specs.Pointers.{with_pointer}
use Rattle.asl_mock.specs.declared.fault.CaseFault.{CaseFault}
use Rattle.asl_mock.specs.declared.fault.CaseFault.TheVariants.{NoMachine, NoCase}
use Rattle.asl_mock.specs.declared.fault.MockFault.{MockFault}
use Rattle.asl_mock.specs.declared.fault.MockFault.TheVariants.{Json, Shape, Key, Overlap, NoResponse, OutOfMemory}

abbrev pub mock_line : MockFault → List ℕ
mock_line (Json f) = codes "M1 Json " ++ fault_text f
mock_line (Shape p) = with_pointer (codes "M2 Shape") p
mock_line (Key p) = with_pointer (codes "M3 Key") p
mock_line (Overlap p) = with_pointer (codes "M4 Overlap") p
mock_line (NoResponse p) = with_pointer (codes "M5 NoResponse") p
mock_line OutOfMemory = codes "M6 OutOfMemory"

abbrev pub case_line : CaseFault → List ℕ
case_line NoMachine = codes "M7 NoMachine"
case_line NoCase = codes "M8 NoCase"
