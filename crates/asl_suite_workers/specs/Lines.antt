-- The texts of faults.
use Rattle.std.specs.Prelude.{ℕ, List, ◌++◌, codes}
use Rattle.std.specs.Fmt.{decimal}
use Rattle.asl_suite_workers.specs.declared.cases.SuiteFault.{SuiteFault}
use Rattle.asl_suite_workers.specs.declared.cases.SuiteFault.TheVariants.{NotRun, OutOfMemory}

abbrev pub suite_line : SuiteFault → List ℕ
suite_line (NotRun i) = codes "H4 NotRun " ++ decimal i
suite_line OutOfMemory = codes "H5 OutOfMemory"
