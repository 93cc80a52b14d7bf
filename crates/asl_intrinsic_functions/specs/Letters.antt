-- A text between apostrophes: a backslash makes the character behind it stand for itself.
use Rattle.std.specs.Prelude.{ℕ, ◌==◌, Bool, true, ◌&&◌, List, [], ◌∷◌, map, if◌then◌else◌}
use Rattle.std.specs.Str.{encode_utf8_all}
use Rattle.std.specs.Str.{chars}
use Rattle.asl_intrinsic_functions.specs.declared.letter.Letter.{Letter}
use Rattle.asl_intrinsic_functions.specs.declared.letter.Letter.TheVariants.{Plain, Escaped}

abbrev pub backslash : ℕ
backslash = 92

-- the letters of these characters, with escapes or without
abbrev mutual
  pub letters : Bool → List ℕ → List Letter
  letters escapes [] = []
  letters escapes (c ∷ cs) =
      if escapes && c == backslash then behind_backslash escapes cs
      else Plain c ∷ letters escapes cs

  pub behind_backslash : Bool → List ℕ → List Letter
  behind_backslash escapes [] = []
  behind_backslash escapes (c ∷ cs) = Escaped c ∷ letters escapes cs

abbrev pub character : Letter → ℕ
character (Plain c) = c
character (Escaped c) = c

-- what a text between apostrophes means
abbrev pub meant : List ℕ → List ℕ
meant written = encode_utf8_all (map character (letters true (chars written)))
