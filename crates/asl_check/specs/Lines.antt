-- The text of a fault: number and name, and the place where it isn't the whole definition.
use Rattle.std.specs.Prelude.{ℕ, List, ◌++◌, codes}
use Rattle.asl_json_read.specs.FaultText.{fault_text}
use Rattle.asl_json_write.specs.Pointers.{with_pointer}
use Rattle.asl_def_schema.specs.Demands.{words_of}
use Rattle.asl_check.specs.declared.fault.Fault.{Fault}
use Rattle.asl_check.specs.declared.fault.Fault.TheVariants.{Json, Definition, OutOfMemory}

abbrev pub fault_line : Fault → List ℕ
fault_line (Json f) = codes "F1 Json " ++ fault_text f
fault_line (Definition k p) = with_pointer (words_of k) p
fault_line OutOfMemory = codes "F16 OutOfMemory"
