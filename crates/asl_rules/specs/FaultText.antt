-- The text of a fault: its number, its name, and its place where it has one.
use Rattle.std.specs.Prelude.{ℕ, List, ◌++◌, codes}
use Rattle.std.specs.Fmt.{decimal}
use Rattle.asl_rules.specs.declared.fault.RuleFault.{RuleFault}
use Rattle.asl_rules.specs.declared.fault.RuleFault.TheVariants.{Syntax, NoSuchState, OutOfMemory}

abbrev pub fault_text : RuleFault → List ℕ
fault_text (Syntax at) = codes "Q1 Syntax " ++ decimal at
fault_text (NoSuchState at) = codes "Q2 NoSuchState " ++ decimal at
fault_text OutOfMemory = codes "Q3 OutOfMemory"
