-- Which texts are paths, and the root and steps that each spells: by cases on the steps, over whole
-- lists of bytes.
-- (Amazon States Language, "Paths" and "Reference Paths".)
use Rattle.std.specs.Prelude.{◌≡◌, ◌⊎◌, ◌<◌, ◌≤◌, ℕ, ◌+◌, ◌*◌, ◌-◌, Bool, true, ◌||◌, ◌&&◌, not, ◌==◌, nat_le, List, [], ◌∷◌, ◌++◌, length}
use Rattle.asl_json_data.specs.Parts.{Joined}
use Rattle.asl_path.specs.declared.step.Root.{Root}
use Rattle.asl_path.specs.declared.step.Root.TheVariants.{Input, Context}
use Rattle.asl_path.specs.declared.step.Step.{Step}
use Rattle.asl_path.specs.declared.step.Step.TheVariants.{Name, Index}

abbrev pub dollar : ℕ
dollar = 36

abbrev pub full_stop : ℕ
full_stop = 46

abbrev pub open_bracket : ℕ
open_bracket = 91

abbrev pub close_bracket : ℕ
close_bracket = 93

abbrev pub single_quote : ℕ
single_quote = 39

abbrev pub double_quote : ℕ
double_quote = 34

unfoldable pub is_digit : ℕ → Bool
is_digit c = nat_le 48 c && nat_le c 57

-- a letter, a digit, '_', '-' or a byte of a character past ASCII
unfoldable pub is_name_byte : ℕ → Bool
is_name_byte c =
    nat_le 128 c || (nat_le 97 c && nat_le c 122) || (nat_le 65 c && nat_le c 90) || is_digit c
    || (c == 95) || (c == 45)

-- what may stand between two of these quotes: neither the quote nor the backslash
unfoldable pub is_between : ℕ → ℕ → Bool
is_between q c = not (c == q) && not (c == 92)

-- each of these bytes passes the test
abbrev pub Each : (ℕ → Bool) → List ℕ → Type 0
Each p [] = Unit {0}
Each p (c ∷ cs) = (p c ≡ true) × Each p cs

-- the number that digits mean behind others that mean n
abbrev pub number_from : ℕ → List ℕ → ℕ
number_from n [] = n
number_from n (c ∷ cs) = number_from (n * 10 + (c - 48)) cs

-- .name
pub record SpellsDotted (name t : List ℕ) : Type 0 where
  pub parts : t ≡ full_stop ∷ name
  pub some : 0 < length name
  pub each : Each is_name_byte name

-- ['name'], between two of these quotes
pub record SpellsQuoted (quote : ℕ) (name t : List ℕ) : Type 0 where
  pub parts : t ≡ open_bracket ∷ quote ∷ (name ++ quote ∷ close_bracket ∷ [])
  pub each : Each (is_between quote) name

-- [digits], from one to nine of them, which may begin with zeros
pub record SpellsIndex (index : ℕ) (t : List ℕ) : Type 0 where
  pub digits : List ℕ
  pub parts : t ≡ open_bracket ∷ (digits ++ close_bracket ∷ [])
  pub each : Each is_digit digits
  pub some : 0 < length digits
  pub few : length digits ≤ 9
  pub means : number_from 0 digits ≡ index

abbrev pub SpellsStep : Step → List ℕ → Type 0
SpellsStep (Name n) t =
    SpellsDotted n t ⊎ (SpellsQuoted single_quote n t ⊎ SpellsQuoted double_quote n t)
SpellsStep (Index i) t = SpellsIndex i t

abbrev pub SpellsSteps : List Step → List ℕ → Type 0
SpellsSteps [] t = t ≡ []
SpellsSteps (s ∷ ss) t = Joined (SpellsStep s) (SpellsSteps ss) t

-- $ begins at the input, $$ at the context
abbrev pub SpellsRoot : Root → List ℕ → Type 0
SpellsRoot Input t = t ≡ dollar ∷ []
SpellsRoot Context t = t ≡ dollar ∷ dollar ∷ []

-- a path of this root and these steps
abbrev pub SpellsPath : Root → List Step → List ℕ → Type 0
SpellsPath root ss t = Joined (SpellsRoot root) (SpellsSteps ss) t

pub record IsPath (t : List ℕ) : Type 0 where
  pub root : Root
  pub steps : List Step
  pub spelled : SpellsPath root steps t

-- some bytes behind it make it a path
pub record IsPrefix (t : List ℕ) : Type 0 where
  pub more : List ℕ
  pub is_path : IsPath (t ++ more)

-- a path that starts from this root
pub record StartsFrom (root : Root) (t : List ℕ) : Type 0 where
  pub steps : List Step
  pub spelled : SpellsPath root steps t
