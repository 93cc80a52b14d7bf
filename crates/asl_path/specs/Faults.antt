-- What each fault says of a path text, and of putting.
use Rattle.std.specs.Prelude.{◌≡◌, ℕ, List, [], ◌∷◌, ◌++◌, length, None}
use Rattle.asl_json.specs.View.{data_of}
use Rattle.asl_json.specs.declared.value.Json.{Json}
use Rattle.asl_path.specs.Grammar.{IsPath, IsPrefix}
use Rattle.asl_path.specs.Paths.{with_part}
use Rattle.asl_path.specs.declared.path.PathFault.{PathFault}
use Rattle.asl_path.specs.declared.path.PathFault.TheVariants.{PathProfile, OutOfMemory as NoMemory}
use Rattle.asl_path.specs.declared.path.PutFault.{PutFault}
use Rattle.asl_path.specs.declared.path.PutFault.TheVariants.{NoMatch, OutOfMemory}

-- no path goes on from the front over the next byte, or, where there is none, the front is no path
abbrev pub EndsAt : List ℕ → List ℕ → Type 0
EndsAt front [] = IsPath front → ⊥
EndsAt front (c ∷ rest) = IsPrefix (front ++ c ∷ []) → ⊥

-- the byte of this number, counted from 0, is the first one that can't go on; the end of the text
-- counts as one
pub record FaultAt (t : List ℕ) (at : ℕ) : Type 0 where
  pub front : List ℕ
  pub rest : List ℕ
  pub parts : t ≡ front ++ rest
  pub at_is : length front ≡ at
  pub alive : IsPrefix front
  pub dead : EndsAt front rest

abbrev pub IsFaultOf : List ℕ → PathFault → Type 0
IsFaultOf t (PathProfile at) = FaultAt t at
IsFaultOf t NoMemory = Unit {0}

-- both values come back, and without a match there is no such value
abbrev pub HandsBack : List ℕ → Json → Json → PutFault → Type 0
HandsBack t base part (NoMatch b p) =
    (b ≡ base) × (p ≡ part) × (with_part t (data_of base) (data_of part) ≡ None)
HandsBack t base part (OutOfMemory b p) = (b ≡ base) × (p ≡ part)
