-- The Tasks of a definition.
use Rattle.std.specs.Prelude.{◌≡◌, ℕ, List, [], ◌∷◌, Option, Some, None, if◌then◌else◌}
use Rattle.std.specs.Str.{bytes_eq}
use Rattle.asl_rules.specs.declared.atom.Task.{Task}

-- the number of the Task of a name
abbrev pub number_of : List Task → List ℕ → Option ℕ
number_of [] name = None
number_of (t ∷ ts) name = if bytes_eq t.name name then Some t.number else number_of ts name

-- it is one of them
abbrev pub IsTask : List Task → Task → Type 0
IsTask ts t = number_of ts t.name ≡ Some t.number
