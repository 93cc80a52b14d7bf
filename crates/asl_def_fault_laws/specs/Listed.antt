-- Faults of the members of an object, by the table of members.
use Rattle.std.specs.Prelude.{◌≡◌, ◌+◌, ℕ, List, [], ◌∷◌, ◌++◌, true, false, Some, None, slice_get}
use Rattle.asl_json_data.specs.Data.{Data, dict, Pairs}
use Rattle.asl_json.specs.Meaning.{value_at, count}
use Rattle.asl_def_schema.specs.declared.fault.Step.{Step}
use Rattle.asl_def_schema.specs.declared.sort.Sort.{Sort}
use Rattle.asl_def_schema.specs.declared.sort.Sort.TheVariants as sort
use Rattle.asl_def_schema.specs.Members.{Row, Group, shape_in, row_names, is_among, unsupported_names}
use Rattle.asl_def_schema.specs.Claims.{step, is_needed, any_in}
use Rattle.asl_def_fault_laws.specs.Parts.{part, whole, part_at, member_at}
use Rattle.asl_def_fault_laws.specs.Faults.{One}
use Rattle.asl_def_fault_laws.specs.Values.{Stands, IsOther}

-- F3: a member that the table of the object at `outer` requires, and that isn't there; its place is
-- behind the members that are there, by its number in the table
pub record IsMissing (d : Data) (place : List Step) : Type 0 where
  pub outer : List Step
  pub outer_sort : Sort
  pub members : Pairs
  pub object : part_at (whole d) outer ≡ Some (part outer_sort (dict members))
  pub number : ℕ
  pub row : Row
  pub listed : slice_get (shape_in outer_sort members).rows number ≡ Some row
  pub needed : is_needed row members ≡ true
  pub absent : value_at row.name members ≡ None
  pub place_is : place ≡ outer ++ step (count members + number) row.name ∷ []

-- a member of the object at `outer`, which may have no members but those that the table says
pub record IsOfTable (d : Data) (place : List Step) : Type 0 where
  pub outer : List Step
  pub own : Step
  pub place_is : place ≡ outer ++ own ∷ []
  pub outer_sort : Sort
  pub members : Pairs
  pub object : part_at (whole d) outer ≡ Some (part outer_sort (dict members))
  pub closed : (shape_in outer_sort members).others ≡ sort.Unknown
  pub value : Data
  pub there : member_at own.at own.name members ≡ Some value

-- F4: the object may not have this member: no row has its name, and it stands for nothing else
pub record IsUnlisted (d : Data) (place : List Step) : Type 0 where
  pub member : IsOfTable d place
  pub in_no_row : is_among member.own.name
      (row_names (shape_in member.outer_sort member.members).rows) ≡ false
  pub in_no_list : is_among member.own.name unsupported_names ≡ false

-- F5: a member that stands for what isn't supported, or a text that does
pub data IsUnsupported (d : Data) (place : List Step) : Type 0 where
  of_a_member : (m : IsOfTable d place) → is_among m.own.name unsupported_names ≡ true
      → IsUnsupported d place
  of_a_text : Stands IsOther d place → IsUnsupported d place

-- one member of a group has to be there, and none is
abbrev pub HasNone : Pairs → Group → Type 0
HasNone ms g = (g.exact ≡ true) × (any_in g ms ≡ false)

-- F9: an object that has none of the members of which it has to have one
pub record IsUndecided (d : Data) (place : List Step) : Type 0 where
  pub outer_sort : Sort
  pub members : Pairs
  pub object : part_at (whole d) place ≡ Some (part outer_sort (dict members))
  pub none : One (HasNone members) (shape_in outer_sort members).groups
