-- The texts of faults: number and name, and the line and the column, from 1.
use Rattle.std.specs.Prelude.{ℕ, ◌+◌, List, ◌∷◌, ◌++◌, codes}
use Rattle.std.specs.Fmt.{decimal}
use Rattle.asl_json_spans.specs.declared.position.Position.{Position}
use Rattle.asl_project.specs.declared.fault.ProjectFault.{ProjectFault}
use Rattle.asl_project.specs.declared.fault.ProjectFault.TheVariants.{Syntax, Key, WrongType, Machine, File, OutOfMemory}

-- as `3:1`
abbrev pub place_text : Position → List ℕ
place_text p = decimal (p.lines + 1) ++ (58 ∷ decimal (p.characters + 1))

abbrev pub project_line : ProjectFault → List ℕ
project_line (Syntax p) = codes "K1 Syntax " ++ place_text p
project_line (Key p) = codes "K2 Key " ++ place_text p
project_line (WrongType p) = codes "K3 Type " ++ place_text p
project_line (Machine p) = codes "K4 Machine " ++ place_text p
project_line (File p) = codes "K5 File " ++ place_text p
project_line OutOfMemory = codes "K6 OutOfMemory"
