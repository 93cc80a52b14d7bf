-- The mark of a value. Values that are the same have one mark; others mostly have another.
use Rattle.std.specs.Prelude.{◌≡◌, ℕ, ◌+◌, ◌*◌, ◌%◌, List, [], ◌∷◌, cond, None}
use Rattle.std.specs.Int.RustNames.{unsigned_abs}
use Rattle.asl_json_data.specs.Data.{Data, null, boolean, number, text, list, dict, Chain, no_items, item, Pairs, no_members, member}
use Rattle.asl_json.specs.Meaning.{value_at}
use Rattle.asl_json_data.specs.Number.{units_of}
use Rattle.asl_intrinsic_functions.specs.declared.mark.TheConstants.{MODULUS, FACTOR, NULL, TRUE, FALSE, TEXT, LIST, DICT}

-- of parts in order: of those so far and the next
unfoldable pub blended : ℕ → ℕ → ℕ
blended h x = (h * FACTOR + x) % MODULUS

-- of a key and its value
unfoldable pub joined : ℕ → ℕ → ℕ
joined k d = k * (d + 1) % MODULUS

-- of parts in any order: of those so far and one more
unfoldable pub added : ℕ → ℕ → ℕ
added h x = (h + x) % MODULUS

-- of these bytes behind those of a mark
abbrev pub text_mark : ℕ → List ℕ → ℕ
text_mark h [] = h
text_mark h (c ∷ cs) = text_mark (blended h c) cs

-- numbers by their units, lists in order, objects in any order
abbrev mutual
  pub mark : Data → ℕ
  mark null = NULL
  mark (boolean b) = cond b TRUE FALSE
  mark (number s) = unsigned_abs (units_of s) % MODULUS
  mark (text s) = text_mark TEXT s
  mark (list ds) = items_mark LIST ds
  mark (dict ms) = members_mark DICT ms

  pub items_mark : ℕ → Chain → ℕ
  items_mark h no_items = h
  items_mark h (item d ds) = items_mark (blended h (mark d)) ds

  pub members_mark : ℕ → Pairs → ℕ
  members_mark h no_members = h
  members_mark h (member k d ms) = members_mark (added h (joined (text_mark TEXT k) (mark d))) ms

-- no object has a key twice, at any depth
abbrev mutual
  pub IsApart : Data → Type 0
  IsApart null = Unit {0}
  IsApart (boolean b) = Unit {0}
  IsApart (number s) = Unit {0}
  IsApart (text s) = Unit {0}
  IsApart (list ds) = AreApart ds
  IsApart (dict ms) = HasApart ms

  pub AreApart : Chain → Type 0
  AreApart no_items = Unit {0}
  AreApart (item d ds) = IsApart d × AreApart ds

  pub HasApart : Pairs → Type 0
  HasApart no_members = Unit {0}
  HasApart (member k d ms) = (value_at k ms ≡ None) × (IsApart d × HasApart ms)
