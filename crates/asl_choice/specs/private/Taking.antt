-- How much of a pattern and a text is left: words of private contracts.
use Rattle.std.specs.Prelude.{◌≡◌, ℕ, List, [], ◌∷◌, ◌++◌}
use Rattle.asl_choice.specs.declared.pattern.Token.{Token}
use Rattle.asl_choice.specs.declared.pattern.Token.TheVariants.{Byte, Star, OpenEscape}

-- these bytes, and then more of a pattern
abbrev pub bytes_then : List ℕ → List Token → List Token
bytes_then [] ts = ts
bytes_then (b ∷ bs) ts = Byte b ∷ bytes_then bs ts

-- a pattern doesn't go on with a byte
pub data IsStopped (ts : List Token) : Type 0 where
  over : ts ≡ [] → IsStopped ts
  star : (us : List Token) → ts ≡ Star ∷ us → IsStopped ts
  broken : (us : List Token) → ts ≡ OpenEscape ∷ us → IsStopped ts

-- the same bytes at the front of a pattern and of a text are taken away
pub record AreTaken (ts : List Token) (t : List ℕ) (us : List Token) (rest : List ℕ) : Type 0 where
  pub front : List ℕ
  pub tokens : ts ≡ bytes_then front us
  pub text : t ≡ front ++ rest

-- as far as its first star; where there is none, the text is over too
pub record IsFront (ts : List Token) (t : List ℕ) (us : List Token) (rest : List ℕ) : Type 0 where
  pub taken : AreTaken ts t us rest
  pub stopped : IsStopped us
  pub over : us ≡ [] → rest ≡ []
