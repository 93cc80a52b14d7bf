-- Where in a value a JSON Pointer points. (RFC 6901, section 4.)
use Rattle.std.specs.Prelude.{ℕ, ◌+◌, nat_eq, ◌==◌, ◌&&◌, Bool, true, List, [], ◌∷◌, length, drop, Option, Some, None, if◌then◌else◌}
use Rattle.std.specs.List.{starts_with}
use Rattle.asl_json_data.specs.Data.{Data, list, dict, Chain, no_items, item, Pairs, no_members, member}
use Rattle.asl_json_write.specs.Pointers.{index_part, name_part}

-- a part of a pointer ends where the next one begins, or with it
abbrev pub is_end : List ℕ → Bool
is_end [] = true
is_end (c ∷ cs) = c == 47

-- what stands behind this part of a pointer, where it begins with that
abbrev pub after : List ℕ → List ℕ → Option (List ℕ)
after part p =
    if starts_with nat_eq p part && is_end (drop (length part) p) then Some (drop (length part) p)
    else None

-- on to the part of number i, where the pointer goes there, and there by what is left of it
abbrev pub way_on : ℕ → Option (List ℕ) → (List ℕ → List ℕ) → List ℕ → List ℕ
way_on i (Some q) there others = i ∷ there q
way_on i None there others = others

-- the numbers of the items and members on its way, from the outermost in, as far as there are any
abbrev mutual
  pub way_in : Data → List ℕ → List ℕ
  way_in (list ds) p = way_among_items 0 ds p
  way_in (dict ms) p = way_among_members 0 ms p
  way_in d p = []

  -- counted from i
  pub way_among_items : ℕ → Chain → List ℕ → List ℕ
  way_among_items i no_items p = []
  way_among_items i (item d ds) p =
      way_on i (after (index_part i) p) (way_in d) (way_among_items (i + 1) ds p)

  pub way_among_members : ℕ → Pairs → List ℕ → List ℕ
  way_among_members i no_members p = []
  way_among_members i (member k d ms) p =
      way_on i (after (name_part k) p) (way_in d) (way_among_members (i + 1) ms p)
