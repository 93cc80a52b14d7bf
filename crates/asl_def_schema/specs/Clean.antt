-- What holds of the values of a definition without faults, wherever they stand.
use Rattle.std.specs.Prelude.{◌≡◌, ℕ, List, [], ◌∷◌, Bool, true, false, ◌||◌, ◌&&◌, Option, Some, None, is_some}
use Rattle.asl_json_data.specs.Data.{Data, Pairs}
use Rattle.asl_json.specs.Same.{bytes_eq}
use Rattle.asl_json_data.specs.Distinct.{Members}
use Rattle.asl_json.specs.Meaning.{count}
use Rattle.asl_def_schema.specs.declared.sort.Sort.{Sort}
use Rattle.asl_def_schema.specs.declared.sort.Sort.TheVariants as sort
use Rattle.asl_def_schema.specs.declared.sort.Kind.{Kind}
use Rattle.asl_def_schema.specs.declared.sort.Kind.TheVariants as kind
use Rattle.asl_def_schema.specs.Members.{Row, Shape, is_among}
use Rattle.asl_def_schema.specs.Claims.{Spot, claims, member_claims, row_claims, group_demands, heres, is_true, names_in, is_name}
use Rattle.asl_def_schema.specs.First.{Each, Hold}

-- nothing is wrong with a value, where targets may have these names
pub record IsCleanAmong (names : List ℕ → Bool) (s : Sort) (d : Data) : Type 0 where
  pub spot : Spot
  pub named : (k : List ℕ) → spot.names k ≡ names k
  pub hold : Each Hold (claims spot s d)

-- nor with the members of an object of this shape
pub record IsCleanInside (names : List ℕ → Bool) (sh : Shape) (ms : Pairs) : Type 0 where
  pub spot : Spot
  pub named : (k : List ℕ) → spot.names k ≡ names k
  pub groups : Each Hold (heres (group_demands sh.groups ms))
  pub members : Each Hold (member_claims spot sh [] 0 ms)
  pub rows : Each Hold (row_claims (count ms) sh.rows ms)

-- the names that targets may have inside an object of this sort
abbrev pub names_within : Sort → (List ℕ → Bool) → Pairs → List ℕ → Bool
names_within sort.Definition names ms k = names_in ms k
names_within sort.Machine names ms k = names_in ms k
names_within sort.ItemProcessor names ms k = names_in ms k
names_within s names ms k = names k

-- a member that these rows require
abbrev pub is_required : List ℕ → List Row → Bool
is_required k [] = false
is_required k (r ∷ rs) = (bytes_eq k r.name && r.required) || is_required k rs

-- a member that these rows require beside another
abbrev pub is_beside : List ℕ → List ℕ → List Row → Bool
is_beside k l [] = false
is_beside k l (r ∷ rs) = (bytes_eq k r.name && is_among l r.users) || is_beside k l rs

-- whatever names targets may have
pub record IsClean (s : Sort) (d : Data) : Type 0 where
  pub names : List ℕ → Bool
  pub is : IsCleanAmong names s d

-- the value of a member is clean, where it is there
abbrev pub Fits : Sort → Option Data → Type 0
Fits s None = Unit {0}
Fits s (Some d) = IsClean s d

abbrev pub FitsAmong : (List ℕ → Bool) → Sort → Option Data → Type 0
FitsAmong names s None = Unit {0}
FitsAmong names s (Some d) = IsCleanAmong names s d

-- the value of a member is there, and clean
abbrev pub IsThere : Sort → Option Data → Type 0
IsThere s None = ⊥
IsThere s (Some d) = IsClean s d

abbrev pub IsThereAmong : (List ℕ → Bool) → Sort → Option Data → Type 0
IsThereAmong names s None = ⊥
IsThereAmong names s (Some d) = IsCleanAmong names s d

-- nothing is wrong with the items of a list
abbrev pub AreItemsClean : (List ℕ → Bool) → Sort → List Data → Type 0
AreItemsClean names s [] = Unit {0}
AreItemsClean names s (d ∷ ds) = IsCleanAmong names s d × AreItemsClean names s ds

-- nor with states and their names
abbrev pub AreStatesClean : (List ℕ → Bool) → Members → Type 0
AreStatesClean names [] = Unit {0}
AreStatesClean names (m ∷ ms) =
    IsCleanAmong names sort.State m.1 × (is_name m.0 ≡ true) × AreStatesClean names ms

-- the types of states that name what comes next
abbrev pub goes_on : Kind → Bool
goes_on kind.Choice = false
goes_on kind.Succeed = false
goes_on kind.Fail = false
goes_on k = true

-- a true End
abbrev pub is_ending : Option Data → Bool
is_ending None = false
is_ending (Some d) = is_true d

-- exactly one of Next and a true End
pub record GoesOneWay (next ends : Option Data) : Type 0 where
  pub fits : Fits sort.Truth ends
  pub both : is_some next ≡ true → is_ending ends ≡ true → ⊥
  pub neither : is_some next ≡ false → is_ending ends ≡ false → ⊥
