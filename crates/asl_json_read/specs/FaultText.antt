-- The text of a fault: its number, its name, and its place where it has one.
use Rattle.std.specs.Prelude.{ℕ, List, ◌++◌, codes}
use Rattle.std.specs.Fmt.{decimal}
use Rattle.asl_json_read.specs.declared.fault.JsonFault.{JsonFault}
use Rattle.asl_json_read.specs.declared.fault.JsonFault.TheVariants.{Syntax, Duplicate, Depth, Number, Size, Utf8, OutOfMemory}

abbrev pub fault_text : JsonFault → List ℕ
fault_text (Syntax at) = codes "J1 Syntax " ++ decimal at
fault_text (Duplicate at) = codes "J2 Duplicate " ++ decimal at
fault_text (Depth at) = codes "J3 Depth " ++ decimal at
fault_text (Number at) = codes "J4 Number " ++ decimal at
fault_text Size = codes "J5 Size"
fault_text (Utf8 at) = codes "J6 Utf8 " ++ decimal at
fault_text OutOfMemory = codes "J7 OutOfMemory"
