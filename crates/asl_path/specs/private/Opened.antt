-- A value that is taken apart along steps: from the outermost in, each list or object with null
-- where the next part stood.
use Rattle.std.specs.Prelude.{◌≡◌, ◌<◌, ℕ, List, [], ◌∷◌, length, slice_set, Option, None, Some, option_map, Result, Ok, Err}
use Rattle.asl_json_data.specs.Data.{Data, list, dict, chain, pairs}
use Rattle.asl_json.specs.View.{data_of}
use Rattle.asl_json.specs.Access.{key_index, with_value}
use Rattle.asl_json.specs.declared.value.Json.{Json}
use Rattle.asl_path.specs.Walk.{put_child, put}
use Rattle.asl_path.specs.declared.step.Step.{Step}
use Rattle.asl_path.specs.declared.step.Step.TheVariants.{Name, Index}
use Rattle.asl_path.specs.declared.put.Opened.{Opened}
use Rattle.asl_path.specs.declared.put.Opened.TheVariants.{Item, Member}
use Rattle.asl_path.specs.declared.put.Met.{Met}
use Rattle.asl_path.specs.declared.put.Met.TheVariants.{Part, Lacking, Nothing}
use Rattle.asl_path.specs.declared.path.PutFault.{PutFault}
use Rattle.asl_path.specs.declared.path.PutFault.TheVariants.{NoMatch, OutOfMemory}

-- there is a place to put the part back
abbrev pub IsOpen : Opened → Type 0
IsOpen (Item ds i) = i < length ds
IsOpen (Member ms i) = i < length ms

abbrev pub AreOpen : List Opened → Type 0
AreOpen [] = Unit {0}
AreOpen (o ∷ os) = IsOpen o × AreOpen os

-- the list or object with this part in its place
abbrev pub plug : Opened → Data → Data
plug (Item ds i) d = list (chain (slice_set ds i d))
plug (Member ms i) d = dict (pairs (with_value ms i d))

-- the value with this part innermost
abbrev pub rebuilt : List Opened → Data → Data
rebuilt [] d = d
rebuilt (o ∷ os) d = plug o (rebuilt os d)

-- the object lacks the name of the step
abbrev pub Lacks : Step → List (List ℕ × Data) → Type 0
Lacks (Name k) ms = key_index k ms ≡ None
Lacks (Index i) ms = ⊥

-- to put at the step s in v is to put into the part that stands open in o
pub record StepsInto (v : Data) (s : Step) (o : Opened) (part : Data) : Type 0 where
  pub is_open : IsOpen o
  pub puts : (f : Data → Option Data) → put_child v s f ≡ option_map (plug o) (f part)

-- and o with that part is v
pub record TakesOut (v : Data) (s : Step) (o : Opened) (part : Data) : Type 0 where
  pub into : StepsInto v s o part
  pub whole : plug o part ≡ v

-- what a step meets in a value
abbrev pub IsMet : Data → Step → Met → Type 0
IsMet v s (Part o p) = TakesOut v s o (data_of p)
IsMet v s (Lacking ms) = (dict (pairs ms) ≡ v) × Lacks s ms
IsMet v s (Nothing w) = (data_of w ≡ v) × ((f : Data → Option Data) → put_child v s f ≡ None)

-- to put at the steps ss in base is to put at the steps rest in here, which stands open in os
pub record Reaches (base : Data) (ss : List Step) (os : List Opened) (here : Data)
    (rest : List Step) : Type 0 where
  pub are_open : AreOpen os
  pub puts : (r : Data) → put base ss r ≡ option_map (rebuilt os) (put here rest r)

-- and os with here innermost is base
pub record Along (base : Data) (ss : List Step) (os : List Opened) (here : Data)
    (rest : List Step) : Type 0 where
  pub reaches : Reaches base ss os here rest
  pub whole : rebuilt os here ≡ base

-- the answer of putting a part into a value at these steps
abbrev pub IsPut : Json → List Step → Json → Result Json PutFault → Type 0
IsPut v ss part (Ok w) = put (data_of v) ss (data_of part) ≡ Some (data_of w)
IsPut v ss part (Err (NoMatch b r)) =
    (b ≡ v) × (r ≡ part) × (put (data_of v) ss (data_of part) ≡ None)
IsPut v ss part (Err (OutOfMemory b r)) = (b ≡ v) × (r ≡ part)
