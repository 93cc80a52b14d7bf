-- Which test case a word chooses of a mock file: that of a machine, as Machine#Case, or of the only
-- machine (AWS Step Functions, "Mocked service integrations", StateMachines and TestCases).
use Rattle.std.specs.Prelude.{◌≡◌, ℕ, ◌==◌, List, [], ◌∷◌, ◌++◌, Bool, true, false, ◌||◌, not, Option, Some, None, is_some, if◌then◌else◌, codes}
use Rattle.std.specs.List.{list_any}
use Rattle.asl_json_data.specs.Data.{Data}
use Rattle.asl_json_data.specs.Distinct.{Members}
use Rattle.asl_json.specs.Meaning.{value_in}
use Rattle.asl_json.specs.Same.{bytes_eq}
use Rattle.asl_json_data.specs.Reads.{ReadsAs}
use Rattle.asl_json.specs.Access.{member_list_at}

-- a name has a #
abbrev pub has_mark : List ℕ → Bool
has_mark name = list_any (λ b. b == 35) name

abbrev pub has_in : Option Data → List ℕ → Bool
has_in None name = false
has_in (Some d) name = is_some (value_in name d)

-- a machine has a test case of this name
abbrev pub has_case : Data → List ℕ → Bool
has_case machine name = has_in (value_in (codes "TestCases") machine) name

-- a test case behind its machine's name
abbrev pub with_machine : List ℕ → List ℕ → List ℕ
with_machine machine case = machine ++ 35 ∷ case

-- a word is the only machine's name, or that of one of its test cases, or names nothing there; where
-- the machine's name has a #, its test cases can't be chosen
abbrev pub of_machine : List ℕ → Data → List ℕ → List ℕ
of_machine name machine word =
    if bytes_eq name word || (has_mark name || not (has_case machine word)) then word
    else with_machine name word

abbrev pub of_machines : Members → List ℕ → List ℕ
of_machines [] word = word
of_machines (m ∷ []) word = of_machine m.0 m.1 word
of_machines (m ∷ n ∷ ms) word = word

-- what a word without a # chooses of the machines of a mock file
abbrev pub chosen_in : Data → List ℕ → List ℕ
chosen_in mocks word = of_machines (member_list_at (codes "StateMachines") mocks) word

-- the bytes are a JSON text, and this is what the word chooses there
pub record IsChosenIn (b word chosen : List ℕ) : Type 0 where
  pub value : Data
  pub reads : ReadsAs b value
  pub is : chosen ≡ chosen_in value word

-- the bytes are no JSON text, of which nothing is chosen
pub record IsUnread (b word chosen : List ℕ) : Type 0 where
  pub unread : (d : Data) → ReadsAs b d → ⊥
  pub is : chosen ≡ word

-- what a word chooses of a mock file: with a # the word itself
pub data IsChosen (b word chosen : List ℕ) : Type 0 where
  as_it_stands : has_mark word ≡ true → chosen ≡ word → IsChosen b word chosen
  found : has_mark word ≡ false → IsChosenIn b word chosen → IsChosen b word chosen
  unread : has_mark word ≡ false → IsUnread b word chosen → IsChosen b word chosen
