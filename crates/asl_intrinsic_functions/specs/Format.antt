-- `States.Format` (Amazon States Language, "Intrinsic Functions").
use Rattle.std.specs.Prelude.{ℕ, ◌==◌, Bool, true, false, ◌&&◌, List, [], ◌∷◌, ◌++◌, map, Option, Some, None, option_map, if◌then◌else◌}
use Rattle.std.specs.Char.{encode_utf8}
use Rattle.std.specs.List.{list_all}
use Rattle.std.specs.Str.{chars}
use Rattle.asl_json_data.specs.Results.{◌>>=◌}
use Rattle.asl_json_data.specs.Data.{Data, null, boolean, number, text, list, dict}
use Rattle.asl_json_data.specs.Compact.{compact}
use Rattle.asl_intrinsic_functions.specs.Outcome.{Outcome, fails, or_fails}
use Rattle.asl_intrinsic_functions.specs.Converting.{text_in}
use Rattle.asl_intrinsic_functions.specs.Letters.{letters, character}
use Rattle.asl_intrinsic_functions.specs.declared.letter.Letter.{Letter}
use Rattle.asl_intrinsic_functions.specs.declared.letter.Letter.TheVariants.{Plain, Escaped}
use Rattle.asl_intrinsic_functions.specs.declared.fault.Reason.TheVariants.{Unfit, Count}

-- a template's letters, with a hole in place of each `{}`
pub data Token : Type 0 where
  letter : Letter → Token
  hole : Token

abbrev pub is_open : Letter → Bool
is_open (Plain c) = c == 123
is_open (Escaped c) = false

abbrev pub is_close : Letter → Bool
is_close (Plain c) = c == 125
is_close (Escaped c) = false

-- a brace that opens and the one that closes right behind it are a hole; any other letter is itself
-- (ASL: "zero or more instances of the character sequence {}")
abbrev pub tokens : List Letter → List Token
tokens [] = []
tokens (l ∷ []) = letter l ∷ []
tokens (l ∷ m ∷ ls) =
    if is_open l && is_close m then hole ∷ tokens ls
    else letter l ∷ tokens (m ∷ ls)

-- each hole replaced by the next text, where there are as many texts as holes
abbrev pub filled : List Token → List (List ℕ) → Option (List ℕ)
filled [] [] = Some []
filled [] (s ∷ ss) = None
filled (letter l ∷ ts) ss = option_map (λ r. encode_utf8 (character l) ++ r) (filled ts ss)
filled (hole ∷ ts) [] = None
filled (hole ∷ ts) (s ∷ ss) = option_map (λ r. s ++ r) (filled ts ss)

-- all but lists and objects
abbrev pub is_fit : Data → Bool
is_fit (list ds) = false
is_fit (dict ms) = false
is_fit _ = true

-- texts stand without quotes
abbrev pub shown : Data → List ℕ
shown (text t) = t
shown null = compact null
shown (boolean b) = compact (boolean b)
shown (number s) = compact (number s)
shown (list ds) = compact (list ds)
shown (dict ms) = compact (dict ms)

-- the template that stands between apostrophes has escapes, any other has none
abbrev pub template : Option (List ℕ) → List ℕ → List Token
template (Some written) t = tokens (letters true (chars written))
template None t = tokens (letters false (chars t))

abbrev pub formatted : List Token → List Data → Outcome Data
formatted ts ds =
    if list_all is_fit ds then or_fails Count (option_map text (filled ts (map shown ds)))
    else fails Unfit

-- `States.Format(t, a..)`: t with each `{}` replaced by the next argument
abbrev pub format : Option (List ℕ) → Data → List Data → Outcome Data
format written d ds = do
  t ← text_in d
  formatted (template written t) ds
