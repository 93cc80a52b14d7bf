-- Which texts spell which values: the grammar by cases on the value, over whole lists of bytes. No
-- limits here.
use Rattle.std.specs.Prelude.{◌≡◌, ℕ, Bool, true, false, ◌||◌, ◌==◌, List, [], ◌∷◌, ◌++◌, codes}
use Rattle.asl_json_data.specs.Data.{Data, null, boolean, number, text, list, dict, Chain, no_items, item, Pairs, no_members, member}
use Rattle.asl_json_data.specs.Number.{IsNumeral}
use Rattle.asl_json_data.specs.Parts.{Behind, Spaced, Parts}
use Rattle.asl_json_data.specs.Text.{SpellsText}

abbrev pub colon : ℕ
colon = 58

abbrev pub open_bracket : ℕ
open_bracket = 91

abbrev pub close_bracket : ℕ
close_bracket = 93

abbrev pub open_brace : ℕ
open_brace = 123

abbrev pub close_brace : ℕ
close_brace = 125

abbrev pub null_word : List ℕ
null_word = codes "null"

abbrev pub true_word : List ℕ
true_word = codes "true"

abbrev pub false_word : List ℕ
false_word = codes "false"

unfoldable pub is_space : ℕ → Bool
is_space c = (c == 32) || (c == 9) || (c == 10) || (c == 13)

abbrev pub AreSpaces : List ℕ → Type 0
AreSpaces [] = Unit {0}
AreSpaces (c ∷ cs) = (is_space c ≡ true) × AreSpaces cs

-- a key and the spaces round it
pub record SpellsKey (k t : List ℕ) : Type 0 where
  pub before : List ℕ
  pub quoted : List ℕ
  pub behind : List ℕ
  pub parts : t ≡ before ++ (quoted ++ behind)
  pub before_is : AreSpaces before
  pub quoted_is : SpellsText k quoted
  pub behind_is : AreSpaces behind

-- S, and spaces round it or none
abbrev pub Padded : (List ℕ → Type 0) → List ℕ → Type 0
Padded S = Spaced AreSpaces S

-- a key, a colon and what V spells
pub record IsMember (k : List ℕ) (V : List ℕ → Type 0) (t : List ℕ) : Type 0 where
  pub key : List ℕ
  pub value : List ℕ
  pub parts : t ≡ key ++ colon ∷ value
  pub key_is : SpellsKey k key
  pub value_is : Padded V value

abbrev mutual
  pub Spells : Data → List ℕ → Type 0
  Spells null t = t ≡ null_word
  Spells (boolean true) t = t ≡ true_word
  Spells (boolean false) t = t ≡ false_word
  Spells (number s) t = (t ≡ s) × IsNumeral s
  Spells (text s) t = SpellsText s t
  Spells (list ds) t = Behind open_bracket (Parts AreSpaces close_bracket (item_parts ds)) t
  Spells (dict ms) t = Behind open_brace (Parts AreSpaces close_brace (member_parts ms)) t

  -- the items of a list
  pub item_parts : Chain → List (List ℕ → Type 0)
  item_parts no_items = []
  item_parts (item d ds) = Padded (Spells d) ∷ item_parts ds

  -- the members of an object
  pub member_parts : Pairs → List (List ℕ → Type 0)
  member_parts no_members = []
  member_parts (member k d ms) = IsMember k (Spells d) ∷ member_parts ms

-- a JSON text of this value
abbrev pub IsText : List ℕ → Data → Type 0
IsText b v = Padded (Spells v) b

-- some bytes make it a JSON text
abbrev pub IsPrefix : List ℕ → Type 0
IsPrefix b = (more : List ℕ) × (v : Data) × IsText (b ++ more) v
