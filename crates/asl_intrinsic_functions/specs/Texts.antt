-- The functions on texts and numbers (Amazon States Language, "Intrinsic Functions").
use Rattle.std.specs.Prelude.{ℕ, ◌+ℤ◌, Bool, List, [], ◌∷◌, ◌++◌, Ok, if◌then◌else◌, nat_eq}
use Rattle.std.specs.List.{list_any}
use Rattle.std.specs.Str.{chars, encode_utf8_all}
use Rattle.asl_json_data.specs.Results.{◌>>=◌}
use Rattle.asl_json_data.specs.Data.{Data, text, list, chain}
use Rattle.asl_json_data.specs.Compact.{compact}
use Rattle.asl_json_read.specs.Reading.{value_read}
use Rattle.asl_intrinsic_functions.specs.Outcome.{Outcome, or_fails}
use Rattle.asl_intrinsic_functions.specs.Converting.{text_in, number_in, whole, computed}
use Rattle.asl_intrinsic_functions.specs.declared.fault.Reason.TheVariants.{Undecoded}

-- `States.StringToJson(t)`: the value that t spells
abbrev pub string_to_json : Data → Outcome Data
string_to_json d = do
  t ← text_in d
  or_fails Undecoded (value_read t)

-- `States.JsonToString(v)`: the compact text
abbrev pub json_to_string : Data → Outcome Data
json_to_string d = Ok (text (compact d))

abbrev pub is_among : ℕ → List ℕ → Bool
is_among c cs = list_any (nat_eq c) cs

-- these pieces with a character in front of the first one
abbrev pub in_first : ℕ → List (List ℕ) → List (List ℕ)
in_first c [] = (c ∷ []) ∷ []
in_first c (p ∷ ps) = (c ∷ p) ∷ ps

-- the pieces of a text before, between and behind separators, the empty ones too
-- (ASL: the second argument has the characters that separate)
abbrev pub between : List ℕ → List ℕ → List (List ℕ)
between separators [] = [] ∷ []
between separators (c ∷ cs) =
    if is_among c separators then [] ∷ between separators cs
    else in_first c (between separators cs)

-- a text, where it isn't empty
abbrev pub unless_empty : List ℕ → List Data
unless_empty [] = []
unless_empty (b ∷ bs) = text (b ∷ bs) ∷ []

-- the texts of these pieces without those of the empty ones
abbrev pub texts_of : List (List ℕ) → List Data
texts_of [] = []
texts_of (p ∷ ps) = unless_empty (encode_utf8_all p) ++ texts_of ps

-- `States.StringSplit(t, s)`: each character of s separates; empty pieces are dropped
abbrev pub string_split : Data → Data → Outcome Data
string_split d e = do
  t ← text_in d
  s ← text_in e
  Ok (list (chain (texts_of (between (chars s) (chars t)))))

-- `States.MathAdd(a, b)`: the sum of whole numbers
abbrev pub math_add : Data → Data → Outcome Data
math_add d e = do
  s ← number_in d
  t ← number_in e
  a ← whole s
  b ← whole t
  computed (a +ℤ b)
