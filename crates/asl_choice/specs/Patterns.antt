-- Patterns of texts (Amazon States Language, "StringMatches"): a star stands for zero characters or
-- more.
use Rattle.std.specs.Prelude.{◌≡◌, ℕ, List, [], ◌∷◌, ◌++◌, Bool, true, false, ◌&&◌, ◌||◌, nat_eq, if◌then◌else◌}
use Rattle.asl_choice.specs.declared.pattern.Token.{Token}
use Rattle.asl_choice.specs.declared.pattern.Token.TheVariants.{Byte, Star, OpenEscape}

-- the codes of `*` and of the backslash
abbrev pub star : ℕ
star = 42

abbrev pub backslash : ℕ
backslash = 92

-- a byte behind a backslash stands for itself where it is a star or a backslash
abbrev pub escape_of : ℕ → Token
escape_of c = if nat_eq c star || nat_eq c backslash then Byte c else OpenEscape

-- a byte that no backslash stands before
abbrev pub token_of : ℕ → Token
token_of c = if nat_eq c star then Star else Byte c

-- what a pattern says, read from the left
abbrev mutual
  pub tokens : List ℕ → List Token
  tokens [] = []
  tokens (c ∷ cs) = if nat_eq c backslash then escaped cs else (token_of c ∷ tokens cs)

  -- behind a backslash
  pub escaped : List ℕ → List Token
  escaped [] = OpenEscape ∷ []
  escaped (c ∷ cs) = escape_of c ∷ tokens cs

-- a backslash stands before anything else than a star or a backslash, or at the end
abbrev pub has_open_escape : List Token → Bool
has_open_escape [] = false
has_open_escape (Byte b ∷ ts) = has_open_escape ts
has_open_escape (Star ∷ ts) = has_open_escape ts
has_open_escape (OpenEscape ∷ ts) = true

-- There is a way of replacing the stars by texts that gives this text. A star stands for bytes, and
-- that is to say for whole
-- characters: in UTF-8 a character's bytes begin nowhere inside another's, so in a text the parts
-- of a pattern between its stars
-- begin and end where characters do. (Between two stars that touch, any cut will do.)
abbrev pub Fits : List Token → List ℕ → Type 0
Fits [] t = t ≡ []
Fits (Byte b ∷ ts) t = (rest : List ℕ) × (t ≡ b ∷ rest) × Fits ts rest
Fits (Star ∷ ts) t = (front : List ℕ) × (rest : List ℕ) × (t ≡ front ++ rest) × Fits ts rest
Fits (OpenEscape ∷ ts) t = ⊥

-- some end of a text, the whole and the empty one included, passes
abbrev pub some_end : (List ℕ → Bool) → List ℕ → Bool
some_end p [] = p []
some_end p (c ∷ cs) = p (c ∷ cs) || some_end p cs

-- the same as a truth value, trying each length of a star's text in turn
abbrev pub fits : List Token → List ℕ → Bool
fits [] [] = true
fits [] (c ∷ cs) = false
fits (Byte b ∷ ts) [] = false
fits (Byte b ∷ ts) (c ∷ cs) = nat_eq b c && fits ts cs
fits (Star ∷ ts) t = some_end (fits ts) t
fits (OpenEscape ∷ ts) t = false
