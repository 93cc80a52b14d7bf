-- Which texts spell which calls: by cases on the tree, over whole lists of bytes. Any name will do,
-- and numbers have no limits here.
-- (Amazon States Language, "Intrinsic Functions".)
use Rattle.std.specs.Prelude.{◌≡◌, ◌<◌, ℕ, Bool, true, false, ◌||◌, ◌&&◌, not, ◌==◌, nat_le, List, [], ◌∷◌, ◌++◌, length, if◌then◌else◌, codes}
use Rattle.asl_json_data.specs.Data.{Data, null, boolean, number, text}
use Rattle.asl_json_data.specs.Number.{is_over}
use Rattle.asl_json_data.specs.Grammar.{Spells}
use Rattle.asl_json_data.specs.Parts.{Joined, Spaced, Parts}
use Rattle.asl_path.specs.Grammar.{Each, IsPath}
use Rattle.asl_intrinsic.specs.Tree.{Argument, constant, quoted, path, call, Arguments, none, argument}

abbrev pub apostrophe : ℕ
apostrophe = 39

abbrev pub backslash : ℕ
backslash = 92

abbrev pub open_bracket : ℕ
open_bracket = 40

abbrev pub close_bracket : ℕ
close_bracket = 41

-- `States.`
abbrev pub states_word : List ℕ
states_word = codes "States."

-- a letter or a digit
unfoldable pub is_name_byte : ℕ → Bool
is_name_byte c =
    (nat_le 97 c && nat_le c 122) || (nat_le 65 c && nat_le c 90) || (nat_le 48 c && nat_le c 57)

-- no other space, and no line feed
abbrev pub is_space : ℕ → Bool
is_space c = c == 32

abbrev pub AreSpaces : List ℕ → Type 0
AreSpaces t = Each is_space t

-- what may stand behind a backslash: ' \ { }
unfoldable pub is_escaped : ℕ → Bool
is_escaped c = (c == 39) || (c == 92) || (c == 123) || (c == 125)

-- what may stand between two apostrophes: a backslash with one of the bytes above, and any other
-- byte but an apostrophe
abbrev mutual
  pub is_inside : List ℕ → Bool
  is_inside [] = true
  is_inside (c ∷ cs) =
      if c == backslash then is_escape cs else not (c == apostrophe) && is_inside cs

  pub is_escape : List ℕ → Bool
  is_escape [] = false
  is_escape (c ∷ cs) = is_escaped c && is_inside cs

-- a text between apostrophes
pub record SpellsQuoted (s t : List ℕ) : Type 0 where
  pub parts : t ≡ apostrophe ∷ (s ++ apostrophe ∷ [])
  pub inside : is_inside s ≡ true

-- null, true, false or a number, as JSON spells them
abbrev pub SpellsConstant : Data → List ℕ → Type 0
SpellsConstant null t = Spells null t
SpellsConstant (boolean b) t = Spells (boolean b) t
SpellsConstant (number s) t = Spells (number s) t
SpellsConstant _ t = ⊥

-- `States.Name(`, with spaces before the bracket or none
pub record SpellsHead (name t : List ℕ) : Type 0 where
  pub spaces : List ℕ
  pub parts : t ≡ states_word ++ (name ++ (spaces ++ open_bracket ∷ []))
  pub some : 0 < length name
  pub each : Each is_name_byte name
  pub spaces_are : AreSpaces spaces

abbrev mutual
  pub SpellsArgument : Argument → List ℕ → Type 0
  SpellsArgument (constant d) t = SpellsConstant d t
  SpellsArgument (quoted s) t = SpellsQuoted s t
  SpellsArgument (path p) t = (t ≡ p) × IsPath p
  SpellsArgument (call name ts) t =
      Joined (SpellsHead name) (Parts AreSpaces close_bracket (argument_parts ts)) t

  -- the arguments of a call
  pub argument_parts : Arguments → List (List ℕ → Type 0)
  argument_parts none = []
  argument_parts (argument a ts) = Spaced AreSpaces (SpellsArgument a) ∷ argument_parts ts

-- the whole text is a call
abbrev pub SpellsCall : Argument → List ℕ → Type 0
SpellsCall (call name ts) t = SpellsArgument (call name ts) t
SpellsCall _ t = ⊥

pub record IsSpelled (t : List ℕ) : Type 0 where
  pub tree : Argument
  pub spelled : SpellsCall tree t

-- some bytes behind it make it a call
pub record IsPrefix (t : List ℕ) : Type 0 where
  pub more : List ℕ
  pub is_call : IsSpelled (t ++ more)

-- no number is past the limits
abbrev pub FitsConstant : Data → Type 0
FitsConstant (number s) = is_over s ≡ false
FitsConstant d = Unit {0}

abbrev mutual
  pub Fits : Argument → Type 0
  Fits (constant d) = FitsConstant d
  Fits (quoted s) = Unit {0}
  Fits (path p) = Unit {0}
  Fits (call name ts) = FitAll ts

  pub FitAll : Arguments → Type 0
  FitAll none = Unit {0}
  FitAll (argument a ts) = Fits a × FitAll ts
