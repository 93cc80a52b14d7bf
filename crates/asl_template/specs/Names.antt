-- Keys of a template's members. (Amazon States Language, "Payload Template".)
use Rattle.std.specs.Prelude.{ℕ, List, [], ◌∷◌, ◌++◌, Bool, false, ◌||◌, Option, Some, None, if◌then◌else◌, map, option_map, codes}
use Rattle.asl_json_data.specs.Data.{Data}
use Rattle.asl_json_data.specs.Distinct.{Members, has_key}
use Rattle.asl_json.specs.Same.{bytes_eq}

-- ".$", in which the key of a computed member ends
abbrev pub mark : List ℕ
mark = codes ".$"

-- the name before the mark, of a key that ends in it
abbrev pub name_before : List ℕ → Option (List ℕ)
name_before [] = None
name_before (c ∷ k) =
    if bytes_eq (c ∷ k) mark then Some [] else option_map (λ (n : List ℕ). c ∷ n) (name_before k)

abbrev pub first_of : {A : Type 0} → Option A → A → A
first_of (Some a) b = a
first_of None b = b

-- the name that a member has once the template is filled
abbrev pub name_of : List ℕ → List ℕ
name_of k = first_of (name_before k) k

-- these members under those names
abbrev pub named : Members → Members
named ms = map (λ (m : List ℕ × Data). (name_of m.0, m.1)) ms

abbrev pub has_name : Option (List ℕ) → Members → Bool
has_name None ms = false
has_name (Some n) ms = has_key n ms

-- of `k` and `k.$` the other one is among these members
abbrev pub is_double : Members → List ℕ → Bool
is_double ms k = has_key (k ++ mark) ms || has_name (name_before k) ms
