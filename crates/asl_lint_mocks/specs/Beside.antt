-- What doesn't fit between a mock file and the states of a definition.
use Rattle.std.specs.Prelude.{ℕ, List, [], ◌∷◌, Bool, true, false, ◌&&◌, ◌||◌, not, nat_lt, Option, Some, None, if◌then◌else◌, codes, length}
use Rattle.std.specs.List.{list_any}
use Rattle.asl_json_data.specs.Data.{Data}
use Rattle.asl_json_data.specs.Distinct.{Members, has_key}
use Rattle.asl_json.specs.Same.{bytes_eq}
use Rattle.asl_mock.specs.Form.{has, unless}
use Rattle.asl_mock.specs.Places.{Place, under, in_each}
use Rattle.asl_json.specs.Access.{member_list, member_list_at}
use Rattle.asl_lint_mocks.specs.declared.beside.NameFault.{NameFault}
use Rattle.asl_lint_mocks.specs.declared.beside.NameFault.TheVariants.{Unknown, NoTask}

abbrev pub machines_in : Data → Members
machines_in d = member_list_at (codes "StateMachines") d

-- the machine that is meant: that of the name, or the only one
abbrev pub is_meant : Option (List ℕ) → Members → List ℕ → Bool
is_meant (Some k) ms n = bytes_eq k n
is_meant None ms n = not (nat_lt 1 (length ms))

-- M7: no machine has the name, or none is named and there are several
abbrev pub is_unclear : Option (List ℕ) → Members → Bool
is_unclear (Some k) ms = not (has_key k ms)
is_unclear None ms = nat_lt 1 (length ms)

-- where the machines stand; in a file without any the file itself
abbrev pub machines_place : Data → Place
machines_place d =
    if has (codes "StateMachines") d then codes "StateMachines" ∷ [] else []

abbrev pub unclear : Option (List ℕ) → Data → List Place
unclear w d = if is_unclear w (machines_in d) then machines_place d ∷ [] else []

-- ---- the states that cases name, beside the names of a definition's states and of its Tasks

-- unknown-state: no state has the name; not-a-task: a state has it, and no Task
abbrev pub fits : NameFault → (List ℕ → Bool) → (List ℕ → Bool) → List ℕ → Bool
fits Unknown states tasks k = states k
fits NoTask states tasks k = not (states k) || tasks k

abbrev pub in_case : (List ℕ → Bool) → List ℕ × Data → List Place
in_case fitting c = in_each (λ s. unless (fitting s.0)) (member_list c.1)

abbrev pub in_machine : (List ℕ → Bool) → Bool → List ℕ × Data → List Place
in_machine fitting false m = []
in_machine fitting true m =
    under (codes "TestCases") (in_each (in_case fitting) (member_list_at (codes "TestCases") m.1))

-- the states of the cases of the machine that is meant whose names don't fit
abbrev pub misnamed : Option (List ℕ) → (List ℕ → Bool) → Data → List Place
misnamed w fitting d =
    under (codes "StateMachines")
    (in_each (λ m. in_machine fitting (is_meant w (machines_in d) m.0) m) (machines_in d))

-- ---- the states that have an answer in some case of the machine that is meant

abbrev pub case_answers : List ℕ → List ℕ × Data → Bool
case_answers k c = has_key k (member_list c.1)

abbrev pub machine_answers : List ℕ → List ℕ × Data → Bool
machine_answers k m = list_any (case_answers k) (member_list_at (codes "TestCases") m.1)

abbrev pub is_answered : Option (List ℕ) → Data → List ℕ → Bool
is_answered w d k =
    list_any (λ m. is_meant w (machines_in d) m.0 && machine_answers k m) (machines_in d)
