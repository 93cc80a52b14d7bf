-- The test cases of a mock file.
use Rattle.std.specs.Prelude.{ℕ, List, [], ◌∷◌, ◌++◌, ◌≡◌, ◌⊎◌, Bool, true, Option, Some, None, if◌then◌else◌, codes}
use Rattle.asl_json_data.specs.Data.{Data, dict, Pairs, no_members, member}
use Rattle.asl_json_data.specs.Reads.{ReadsAs}
use Rattle.asl_json.specs.Meaning.{value_in}
use Rattle.asl_json.specs.Same.{bytes_eq}

-- a machine and a case, as they are chosen
abbrev pub chosen_case : List ℕ → List ℕ → List ℕ
chosen_case machine case = machine ++ 35 ∷ case

abbrev pub in_cases : List ℕ → Pairs → List (List ℕ)
in_cases machine no_members = []
in_cases machine (member case d ms) = chosen_case machine case ∷ in_cases machine ms

-- each case of a machine
abbrev pub machine_cases : List ℕ → Data → List (List ℕ)
machine_cases machine (dict ms) = in_cases machine ms
machine_cases machine d = []

abbrev pub cases_of : List ℕ → Option Data → List (List ℕ)
cases_of machine (Some d) = machine_cases machine d
cases_of machine None = []

-- it is the machine that is wanted, or any is
abbrev pub is_wanted : Option (List ℕ) → List ℕ → Bool
is_wanted (Some name) machine = bytes_eq name machine
is_wanted None machine = true

abbrev pub of_machine : Option (List ℕ) → List ℕ → Data → List (List ℕ)
of_machine wanted machine d =
    if is_wanted wanted machine then cases_of machine (value_in (codes "TestCases") d) else []

abbrev pub in_machines : Option (List ℕ) → Pairs → List (List ℕ)
in_machines wanted no_members = []
in_machines wanted (member machine d ms) = of_machine wanted machine d ++ in_machines wanted ms

abbrev pub of_machines : Option (List ℕ) → Data → List (List ℕ)
of_machines wanted (dict ms) = in_machines wanted ms
of_machines wanted d = []

abbrev pub all_machines : Option (List ℕ) → Option Data → List (List ℕ)
all_machines wanted (Some d) = of_machines wanted d
all_machines wanted None = []

-- each case of each machine of a mock file that is wanted
abbrev pub cases_in : Option (List ℕ) → Data → List (List ℕ)
cases_in wanted mocks = all_machines wanted (value_in (codes "StateMachines") mocks)

-- the machine that is wanted, and none of its cases
abbrev pub alone : Option (List ℕ) → List (List ℕ)
alone (Some name) = name ∷ []
alone None = [] ∷ []

abbrev pub cases_or_alone : Option (List ℕ) → List (List ℕ) → List (List ℕ)
cases_or_alone wanted [] = alone wanted
cases_or_alone wanted (c ∷ cs) = c ∷ cs

-- What is chosen of the text of a mock file, one after another: the machine alone where there is no case, or the text is no JSON.
abbrev pub IsChoice : Option (List ℕ) → List ℕ → List (List ℕ) → Type 0
IsChoice wanted text cs =
    ((v : Data) × ReadsAs text v × (cs ≡ cases_or_alone wanted (cases_in wanted v)))
    ⊎ (((v : Data) → ReadsAs text v → ⊥) × (cs ≡ alone wanted))
