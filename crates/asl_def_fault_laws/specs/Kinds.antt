-- Faults that depend on what stands around a value, in terms of the language.
use Rattle.std.specs.Prelude.{◌≡◌, ◌⊎◌, ◌<◌, ◌≤◌, ℕ, suc, List, [], ◌∷◌, ◌++◌, true, false, length, Some}
use Rattle.asl_json_data.specs.Data.{Data, text, list, dict, Chain, Pairs}
use Rattle.asl_template.specs.Names.{mark}
use Rattle.asl_def_schema.specs.declared.fault.Step.{Step}
use Rattle.asl_def_schema.specs.declared.sort.Sort.{Sort}
use Rattle.asl_def_schema.specs.declared.sort.Sort.TheVariants as sort
use Rattle.asl_def_schema.specs.Members.{Group, Shape, shape_in}
use Rattle.asl_def_schema.specs.Claims.{counts, has_all, item_count, max_machines}
use Rattle.asl_def_fault_laws.specs.Parts.{Part, part, whole, part_at, member_at, machines_around, innermost, has_state}
use Rattle.asl_def_fault_laws.specs.Order.{is_up_to}
use Rattle.asl_def_fault_laws.specs.Faults.{One}

-- a target that no state of its machine has (Amazon States Language, "Transitions")
pub record IsLostTarget (d : Data) (place : List Step) : Type 0 where
  pub name : List ℕ
  pub target : part_at (whole d) place ≡ Some (part sort.Target (text name))
  pub unknown : has_state (innermost (machines_around (whole d) place)) name ≡ false

-- a branch of a Parallel or the machine of a Map, or what stands there, inside 16 machines
pub record IsTooDeep (d : Data) (place : List Step) : Type 0 where
  pub machine : Part
  pub stands : part_at (whole d) place ≡ Some machine
  pub inner : (machine.sort ≡ sort.Machine) ⊎ (machine.sort ≡ sort.ItemProcessor)
  pub deep : max_machines ≤ length (machines_around (whole d) place)

-- a member: its key and value
abbrev pub Named : Type 0
Named = List ℕ × Data

-- both count in this group
abbrev pub BothCount : Named → Named → Group → Type 0
BothCount m n g = (counts g m.0 m.1 ≡ true) × (counts g n.0 n.1 ≡ true)

-- two members of which one may be there: of one group, or `k` and `k.$` in a template
pub data AreRivals (sh : Shape) (m n : Named) : Type 0 where
  of_a_group : One (BothCount m n) sh.groups → AreRivals sh m n
  of_a_template : sh.others ≡ sort.Template → (n.0 ≡ m.0 ++ mark) ⊎ (m.0 ≡ n.0 ++ mark)
      → AreRivals sh m n

-- a member of the object at `outer`, with another one before it, of which one may be there
pub record IsRivalled (d : Data) (place : List Step) : Type 0 where
  pub outer : List Step
  pub own : Step
  pub other : Step
  pub place_is : place ≡ outer ++ own ∷ []
  pub outer_sort : Sort
  pub members : Pairs
  pub object : part_at (whole d) outer ≡ Some (part outer_sort (dict members))
  pub value : Data
  pub there : member_at own.at own.name members ≡ Some value
  pub rival : Data
  pub stands : member_at other.at other.name members ≡ Some rival
  pub before : other.at < own.at
  pub rivals : AreRivals (shape_in outer_sort members) (own.name, value) (other.name, rival)

-- `States.ALL` beside other names, or in a retrier or catcher (`holder`) with others behind it in
-- its list (at `outer`)
pub record IsNotLast (d : Data) (place : List Step) : Type 0 where
  pub outer : List Step
  pub holder : Step
  pub own : Step
  pub place_is : place ≡ outer ++ holder ∷ own ∷ []
  pub outer_sort : Sort
  pub holders : Chain
  pub listed : part_at (whole d) outer ≡ Some (part outer_sort (list holders))
  pub policies : (outer_sort ≡ sort.Retriers) ⊎ (outer_sort ≡ sort.Catchers)
  pub names : Chain
  pub named : part_at (whole d) place ≡ Some (part sort.ErrorNames (list names))
  pub all : has_all names ≡ true
  pub misplaced : (1 < item_count names) ⊎ (suc holder.at < item_count holders)

-- a state of this name stands at a place, which ends in its name
pub record IsState (x : Part) (place : List Step) (name : List ℕ) : Type 0 where
  pub outer : List Step
  pub own : Step
  pub place_is : place ≡ outer ++ own ∷ []
  pub called : own.name ≡ name
  pub value : Data
  pub stands : part_at x place ≡ Some (part sort.State value)

-- a state whose name a state before it has, in whichever machine
pub record IsNamesake (d : Data) (place : List Step) : Type 0 where
  pub name : List ℕ
  pub state : IsState (whole d) place name
  pub earlier : List Step
  pub other : IsState (whole d) earlier name
  pub before : is_up_to place earlier ≡ false
