-- The least value in which a path names a part, and the part that it names. (Amazon States Language, "Reference Paths".)
use Rattle.std.specs.Prelude.{ℕ, zero, suc, ◌+◌, ◌-◌, ◌*◌, nat_lt, nat_le, Bool, true, false, ◌||◌, ◌==◌, List, [], ◌∷◌, ◌++◌, length, Option, Some, None, if◌then◌else◌}
use Rattle.asl_json_data.specs.Data.{Data, list, dict, no_members, chain}
use Rattle.std.specs.Option.{option_map_or}
use Rattle.asl_path.specs.Paths.{part_at, with_part}
use Rattle.asl_mock_sample.specs.Merging.{anything, or_anything}
use Rattle.asl_mock_sample.specs.Texts.{cut}

-- the part that a path names
abbrev pub found : List ℕ → Data → Data
found t d = or_anything (part_at t d)

-- the value at a path of names, in objects that have nothing else
abbrev pub placed : List ℕ → Data → Data
placed t d = or_anything (with_part t (dict no_members) d)

abbrev pub digit_of : ℕ → Option ℕ
digit_of c = if nat_lt c 48 then None else if nat_lt 57 c then None else Some (c - 48)

-- the number that the digits in front spell, behind others that mean this; one past 63 goes no further
abbrev pub number_from : ℕ → List ℕ → ℕ
number_from n [] = n
number_from n (c ∷ cs) =
    option_map_or (λ d. if nat_le 64 n then n else number_from (n * 10 + d) cs) (digit_of c) n

-- so many that stand for anything
abbrev pub fillers : ℕ → List Data
fillers zero = []
fillers (suc n) = fillers n ++ anything ∷ []

-- the item of this number
abbrev pub nth_item : ℕ → Data → Data
nth_item n d = list (chain (fillers n ++ d ∷ []))

abbrev pub is_quoted : List ℕ → Bool
is_quoted [] = false
is_quoted (c ∷ t) = (c == 39) || (c == 34)

-- in a list under the names in front, at the index before the bracket closes, under the names behind it
abbrev pub in_list : List ℕ → Option (List ℕ × List ℕ) → Data → Data
in_list front None d = anything
in_list front (Some x) d = placed front (nth_item (number_from 0 x.0) (placed (36 ∷ x.1) d))

abbrev pub below_cut : List ℕ → Option (List ℕ × List ℕ) → Data → Data
below_cut t None d = placed t d
below_cut t (Some x) d = if is_quoted x.1 then placed t d else in_list x.0 (cut 93 x.1) d

-- the value at a path, of which one step at most is an index; a path of more than 1,000 bytes tells nothing
abbrev pub below : List ℕ → Data → Data
below t d = if nat_lt 1000 (length t) then anything else below_cut t (cut 91 t) d

-- begins with a step, or is empty
abbrev pub is_behind : List ℕ → Bool
is_behind [] = true
is_behind (c ∷ t) = (c == 46) || (c == 91)

-- what stands behind these bytes
abbrev pub stripped : List ℕ → List ℕ → Option (List ℕ)
stripped [] t = Some t
stripped (c ∷ p) [] = None
stripped (c ∷ p) (d ∷ t) = if d == c then stripped p t else None

abbrev pub if_behind : Option (List ℕ) → Option (List ℕ)
if_behind None = None
if_behind (Some t) = if is_behind t then Some t else None

-- what stands behind the root, of a path from it
abbrev pub behind : List ℕ → List ℕ → Option (List ℕ)
behind root t = if_behind (stripped root t)

abbrev pub wants_behind : Option (List ℕ) → Data → Data
wants_behind None d = anything
wants_behind (Some t) d = below (36 ∷ t) d

-- what is wanted of a root, where this is wanted of the part that a path names
abbrev pub path_wants : List ℕ → List ℕ → Data → Data
path_wants root t d = wants_behind (behind root t) d
