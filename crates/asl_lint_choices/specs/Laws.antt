-- Laws of what is told, on every input and every Context Object.
use Rattle.std.specs.Prelude.{◌≡◌, ℕ, zero, suc, ◌<◌, List, [], ◌∷◌, length, true, false, Option, Some, None, option_map, codes, Ok, if◌then◌else◌}
use Rattle.std.specs.List.{All, slice_get}
use Rattle.asl_json_data.specs.Data.{Data, list, chain}
use Rattle.asl_json_data.specs.Distinct.{Members}
use Rattle.asl_json.specs.Same.{bytes_eq}
use Rattle.asl_choice.specs.Truth.{Verdict, holds}
use Rattle.asl_lint_choices.specs.Conditions.{condition}
use Rattle.asl_lint_choices.specs.Repeats.{repeated_rules}
use Rattle.asl_lint_choices.specs.Contradictions.{first_contradiction}
use Rattle.asl_lint_choices.specs.Ands.{Told, item_list, impossible_ands}
use Rattle.asl_lint_choices.specs.declared.repeats.Repeated.{Repeated}
use Rattle.asl_lint_choices.specs.declared.contradictions.Contradiction.{Contradiction}

-- what is said of the rule of this number
abbrev pub verdict : List Data → ℕ → Data → Data → Option Verdict
verdict rules n x c = option_map (λ r. holds r x c) (slice_get rules n)

-- ---- rules that ask what an earlier one asks

abbrev pub IsAlike : List Data → Repeated → Type 0
IsAlike rules r =
    (r.earlier < r.rule) × (r.rule < length rules)
    × ((x c : Data) → verdict rules r.rule x c ≡ verdict rules r.earlier x c)

-- of each rule that is told the same is said as of an earlier one
abbrev pub RepeatedRulesAreAlike : Type 0
RepeatedRulesAreAlike = (rules : List Data) → All (IsAlike rules) (repeated_rules rules)

-- the rule of this number is the first that holds
abbrev pub Decides : List Data → ℕ → Data → Data → Type 0
Decides [] n x c = ⊥
Decides (r ∷ rs) zero x c = holds r x c ≡ Ok true
Decides (r ∷ rs) (suc n) x c = (holds r x c ≡ Ok false) × Decides rs n x c

abbrev pub NeverDecides : List Data → Repeated → Type 0
NeverDecides rules r = (x c : Data) → Decides rules r.rule x c → ⊥

-- a rule that is told is never the first that holds
abbrev pub RepeatedRulesNeverDecide : Type 0
RepeatedRulesNeverDecide = (rules : List Data) → All (NeverDecides rules) (repeated_rules rules)

-- ---- rules that never hold both

-- the first stands before the second, and no input and no Context Object make both hold
abbrev pub NeverHoldBoth : List Data → Contradiction → Type 0
NeverHoldBoth rules t =
    (t.first < t.second) × (t.second < length rules)
    × ((x c : Data) → verdict rules t.first x c ≡ Some (Ok true)
    → verdict rules t.second x c ≡ Some (Ok true) → ⊥)

abbrev pub ContradictionsAreSo : Type 0
ContradictionsAreSo = (rules : List Data) (t : Contradiction)
    → first_contradiction rules ≡ Some t → NeverHoldBoth rules t

-- a rule asks that each of these holds
abbrev pub IsAnd : List Data → Data → Type 0
IsAnd rules rule = condition rule ≡ (codes "And", list (chain rules)) ∷ []

-- an And with such rules never holds
abbrev pub ContradictoryAndsNeverHold : Type 0
ContradictoryAndsNeverHold = (rules : List Data) (t : Contradiction)
    → first_contradiction rules ≡ Some t → (rule : Data) → IsAnd rules rule
    → (x c : Data) → holds rule x c ≡ Ok true → ⊥

-- ---- Ands at any depth in a rule

-- the rules that a rule is made of, by the member that says when it holds
abbrev pub made_of : List ℕ → Data → List Data
made_of k d =
    if bytes_eq k (codes "And") then item_list d
    else if bytes_eq k (codes "Or") then item_list d
    else if bytes_eq k (codes "Not") then d ∷ []
    else []

abbrev pub made_by : Members → List Data
made_by (m ∷ []) = made_of m.0 m.1
made_by ms = []

abbrev pub inner_rules : Data → List Data
inner_rules rule = made_by (condition rule)

abbrev pub given : Option Data → (Data → Option Data) → Option Data
given (Some d) f = f d
given None f = None

-- the rule at a place in a rule
abbrev pub rule_at : List ℕ → Data → Option Data
rule_at [] rule = Some rule
rule_at (n ∷ ns) rule = given (slice_get (inner_rules rule) n) (rule_at ns)

abbrev pub NeverHoldsAt : Data → Told → Type 0
NeverHoldsAt rule t =
    (inner : Data) × (rule_at t.0 rule ≡ Some inner) × ((x c : Data) → holds inner x c ≡ Ok true → ⊥)

-- a rule stands at each place that is told, and it never holds
abbrev pub ImpossibleAndsNeverHold : Type 0
ImpossibleAndsNeverHold = (rule : Data) → All (NeverHoldsAt rule) (impossible_ands rule)
