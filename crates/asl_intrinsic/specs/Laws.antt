-- Laws of texts that spell calls.
use Rattle.std.specs.Prelude.{◌≡◌, ℕ, List}
use Rattle.asl_json_data.specs.Data.{Data}
use Rattle.asl_intrinsic.specs.Tree.{Argument}
use Rattle.asl_intrinsic.specs.Grammar.{SpellsCall, Fits}
use Rattle.asl_intrinsic.specs.Calls.{value_of}
use Rattle.asl_intrinsic.specs.Values.{ev}
use Rattle.asl_intrinsic.specs.Faults.{IsWrongAt, IsFirstWrong}

-- what a text means, by a tree that it spells with numbers in the limits: no place is wrong, and
-- the tree has its value
pub record Means (t : List ℕ) (a : Argument) : Type 0 where
  pub nowhere : (at : ℕ) → IsWrongAt t at → ⊥
  pub value : (x c : Data) → ev t x c ≡ value_of a x c

abbrev pub HasOneMeaning : Type 0
HasOneMeaning = (a : Argument) (t : List ℕ) → SpellsCall a t → Fits a → Means t a

-- whatever its numbers are
abbrev pub HasOneTree : Type 0
HasOneTree = (a b : Argument) (t : List ℕ) → SpellsCall a t → SpellsCall b t → a ≡ b

-- a text that spells no call with numbers in the limits has a first place that is wrong
abbrev pub OthersAreWrong : Type 0
OthersAreWrong =
    (t : List ℕ) → ((a : Argument) → SpellsCall a t → Fits a → ⊥) → (at : ℕ) × IsFirstWrong t at
