-- What is built of a definition without faults.
use Rattle.std.specs.Prelude.{◌≡◌, ◌+◌, ◌≤◌, ℕ, List, [], ◌∷◌, ◌++◌, length, map, Some, option_map, codes, if◌then◌else◌, take, drop, string_bytes}
use Rattle.asl_json_data.specs.Data.{Data, Pairs, text, dict, pairs}
use Rattle.asl_json.specs.Same.{bytes_eq}
use Rattle.asl_json.specs.Meaning.{value_at}
use Rattle.asl_def_schema.specs.declared.sort.Sort.{Sort}
use Rattle.asl_def_schema.specs.declared.sort.Sort.TheVariants.{State as state_sort, Machine, States, Text, Target}
use Rattle.asl_def_schema.specs.States.{states_in}
use Rattle.asl_def_schema.specs.Canon.{Named, canon, kept_at}
use Rattle.asl_def_schema.specs.Clean.{Fits, IsThere}
use Rattle.asl_def_shared.specs.declared.body.Body.{Body}
use Rattle.asl_def_states.specs.declared.state.State.{State}
use Rattle.asl_def_shared.specs.Bodies.{body_of, bodies_of, IsWithin, AreWithin}
use Rattle.asl_def_states.specs.Show.{state_of, StateIsWithin}
use Rattle.asl_def.specs.declared.build.Own.{Own}
use Rattle.asl_def.specs.declared.build.Span.{Span}
use Rattle.asl_def.specs.Machines.{all_states}

-- how often a name comes
abbrev pub tally : {A : Type 0} → List ℕ → List (List ℕ × A) → ℕ
tally k [] = 0
tally k (m ∷ ms) = (if bytes_eq k m.0 then 1 else 0) + tally k ms

-- the states of a value may still go into a table: no name comes twice
pub record HasRoom (t : List Named) (s : Sort) (d : Data) : Type 0 where
  pub once : (k : List ℕ) → tally k t + tally k (states_in s d) ≤ 1

-- a table with the states of a value behind those that it had
pub record Grows (s : Sort) (d : Data) (old new : List Named) : Type 0 where
  pub is : new ≡ old ++ all_states s (canon s d)
  pub named : (k : List ℕ) → tally k new ≤ tally k old + tally k (states_in s d)

-- the same of the states of a machine, by its members
pub record HasRoomInside (t : List Named) (ms : Pairs) : Type 0 where
  pub own : (d : Data) → value_at (codes "States") ms ≡ Some d → HasRoom t States d

pub record GrowsInside (ms : Pairs) (old new : List Named) : Type 0 where
  pub own : (d : Data) → value_at (codes "States") ms ≡ Some d → Grows States d old new

-- the members of a machine inside a state are such as they are compiled from
pub record IsMachine (ms : Pairs) : Type 0 where
  pub comment : Fits Text (value_at (codes "Comment") ms)
  pub start : IsThere Target (value_at (codes "StartAt") ms)
  pub states : IsThere States (value_at (codes "States") ms)

-- and are compiled
pub record IsCompiled (t : List Named) (ms : Pairs) (b : Body) : Type 0 where
  pub within : IsWithin (length t) b
  pub comment : option_map text b.comment ≡ value_at (codes "Comment") ms
  pub start : Some (text b.start.name) ≡ value_at (codes "StartAt") ms
  pub states : Some (dict (pairs (take b.count (drop b.first t))))
      ≡ kept_at (codes "States") States ms

pub record IsBody (t : List Named) (d : Data) (b : Body) : Type 0 where
  pub within : IsWithin (length t) b
  pub shows : body_of t b ≡ canon Machine d

pub record AreBodies (t : List Named) (ds : List Data) (bs : List Body) : Type 0 where
  pub within : AreWithin (length t) bs
  pub shows : bodies_of t bs ≡ map (canon Machine) ds

pub record IsState (t : List Named) (d : Data) (s : State) : Type 0 where
  pub within : StateIsWithin (length t) s
  pub shows : state_of t s ≡ canon state_sort d

-- the states of a machine, canonical
abbrev pub canon_row : Named → Named
canon_row m = (m.0, canon state_sort m.1)

abbrev pub canon_rows : List Named → List Named
canon_rows ms = map canon_row ms

-- states that are to go last, over the table so far

abbrev pub row_in : List Named → Own → Named
row_in t o = (string_bytes o.name, state_of t o.state)

abbrev pub rows_in : List Named → List Own → List Named
rows_in t os = map (row_in t) os

abbrev pub OwnAreWithin : ℕ → List Own → Type 0
OwnAreWithin n [] = Unit {0}
OwnAreWithin n (o ∷ os) = StateIsWithin n o.state × OwnAreWithin n os

-- they are the states of a machine
pub record AreOwn (t : List Named) (ms : List Named) (os : List Own) : Type 0 where
  pub within : OwnAreWithin (length t) os
  pub shows : rows_in t os ≡ canon_rows ms

-- they may go last
pub record HasRoomFor (t : List Named) (os : List Own) : Type 0 where
  pub within : OwnAreWithin (length t) os
  pub once : (k : List ℕ) → tally k t + tally k (rows_in t os) ≤ 1

-- they stand together
pub record IsSpan (t : List Named) (ms : List Named) (s : Span) : Type 0 where
  pub within : s.first + s.count ≤ length t
  pub shows : take s.count (drop s.first t) ≡ canon_rows ms
