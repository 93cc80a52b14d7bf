-- Laws of paths.
use Rattle.std.specs.Prelude.{◌≡◌, ◌⊎◌, ℕ, List, [], ◌∷◌, Some, None}
use Rattle.asl_json_data.specs.Data.{Data}
use Rattle.asl_path.specs.Grammar.{SpellsPath, IsPath}
use Rattle.asl_path.specs.Walk.{at, put}
use Rattle.asl_path.specs.Paths.{part_at, with_part}
use Rattle.asl_path.specs.Faults.{FaultAt}
use Rattle.asl_path.specs.declared.step.Root.{Root}
use Rattle.asl_path.specs.declared.step.Step.{Step}

-- what a path text means, by a root and steps that it spells
pub record Means (t : List ℕ) (root : Root) (ss : List Step) : Type 0 where
  pub only_root : (r : Root) (us : List Step) → SpellsPath r us t → r ≡ root
  pub only_steps : (r : Root) (us : List Step) → SpellsPath r us t → us ≡ ss
  pub part : (v : Data) → part_at t v ≡ at v ss
  pub with : (v r : Data) → with_part t v r ≡ put v ss r

abbrev pub HasOneMeaning : Type 0
HasOneMeaning = (root : Root) (ss : List Step) (t : List ℕ) → SpellsPath root ss t → Means t root ss

-- a text of no meaning
pub record MeansNothing (t : List ℕ) : Type 0 where
  pub part : (v : Data) → part_at t v ≡ None
  pub with : (v r : Data) → with_part t v r ≡ None

abbrev pub HasNoMeaning : Type 0
HasNoMeaning = (t : List ℕ) → (IsPath t → ⊥) → MeansNothing t

-- what the place of a fault says of a text
pub record IsOnlyFault (t : List ℕ) (at : ℕ) : Type 0 where
  pub only : (other : ℕ) → FaultAt t other → other ≡ at
  pub none : IsPath t → ⊥

abbrev pub HasOneFault : Type 0
HasOneFault = (t : List ℕ) (at : ℕ) → FaultAt t at → IsOnlyFault t at

-- what was put is there
abbrev pub IsThere : Type 0
IsThere = (t : List ℕ) (v r w : Data) → with_part t v r ≡ Some w → part_at t w ≡ Some r

-- the last put stays
abbrev pub LastStays : Type 0
LastStays =
    (t : List ℕ) (v q r w : Data) → with_part t v q ≡ Some w → with_part t w r ≡ with_part t v r

-- to put what is there changes nothing
abbrev pub SameChangesNothing : Type 0
SameChangesNothing = (t : List ℕ) (v r : Data) → part_at t v ≡ Some r → with_part t v r ≡ Some v

-- whether there is a place doesn't depend on what is put
abbrev pub NeedsTheSamePlace : Type 0
NeedsTheSamePlace = (t : List ℕ) (v q r : Data) → with_part t v q ≡ None → with_part t v r ≡ None

-- behind the same steps, two that differ
abbrev pub AreApart : List Step → List Step → Type 0
AreApart [] us = ⊥
AreApart (s ∷ ss) [] = ⊥
AreApart (s ∷ ss) (u ∷ us) = (s ≡ u → ⊥) ⊎ ((s ≡ u) × AreApart ss us)

-- what paths apart from it name stays
abbrev pub LeavesTheRest : Type 0
LeavesTheRest =
    (a b : Root) (ss us : List Step) (t o : List ℕ) → SpellsPath a ss t → SpellsPath b us o
    → AreApart ss us → (v r w : Data) → with_part t v r ≡ Some w → part_at o w ≡ part_at o v
