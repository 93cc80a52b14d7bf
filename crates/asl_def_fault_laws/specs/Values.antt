-- Faults that a value has by itself, by what it is to be.
use Rattle.std.specs.Prelude.{◌≡◌, ◌⊎◌, ◌<◌, ℕ, List, [], true, false, Some, None, codes, pos}
use Rattle.asl_json_data.specs.Data.{Data, number, text, list}
use Rattle.asl_json_data.specs.Number.{units_of}
use Rattle.asl_json.specs.Whole.{whole_of}
use Rattle.asl_path.specs.Grammar.{IsPath, StartsFrom}
use Rattle.asl_path.specs.declared.step.Root.TheVariants.{Input}
use Rattle.asl_intrinsic.specs.Faults.{IsCall}
use Rattle.asl_template.specs.Filling.{is_path}
use Rattle.asl_def_schema.specs.declared.fault.Step.{Step}
use Rattle.asl_def_schema.specs.declared.sort.Sort.{Sort}
use Rattle.asl_def_schema.specs.declared.sort.Sort.TheVariants as sort
use Rattle.asl_def_schema.specs.declared.sort.Form.TheVariants as form
use Rattle.asl_def_schema.specs.Members.{kind_of}
use Rattle.asl_def_schema.specs.Demands.{form_of, is_of, HasMoment}
use Rattle.asl_def_schema.specs.Claims.{is_name, is_between, is_between_whole, is_jitter, item_count, most_whole}
use Rattle.asl_def_fault_laws.specs.Parts.{Part, whole, part_at}
use Rattle.asl_def_fault_laws.specs.Kinds.{IsState}

-- what stands at a place is so, by what it is to be
pub record Stands (So : Sort → Data → Type 0) (d : Data) (place : List Step) : Type 0 where
  pub found : Part
  pub stands : part_at (whole d) place ≡ Some found
  pub so : So found.sort found.value

-- F2: the whole definition is no object
pub record IsNoObject (d : Data) (place : List Step) : Type 0 where
  pub place_is : place ≡ []
  pub no_object : is_of form.Object d ≡ false

-- not of a type of JSON that it may be of
abbrev pub IsMistyped : Sort → Data → Type 0
IsMistyped s d = is_of (form_of s) d ≡ false

-- F6: a value inside the definition that isn't of its type
pub record IsOfWrongType (d : Data) (place : List Step) : Type 0 where
  pub inside : place ≡ [] → ⊥
  pub value : Stands IsMistyped d place

-- a text that stands for what isn't supported
abbrev pub IsOther : Sort → Data → Type 0
IsOther sort.KindName (text t) = kind_of t ≡ None
IsOther sort.Version (text t) = t ≡ codes "1.0" → ⊥
IsOther sort.QueryLanguage (text t) = t ≡ codes "JSONPath" → ⊥
IsOther sort.Mode (text t) = t ≡ codes "INLINE" → ⊥
IsOther s d = ⊥

-- outside of its range or list; a rate is counted in billionths, and is from 1 to 1000
abbrev pub IsOutside : Sort → Data → Type 0
IsOutside sort.FromZero (number n) =
    is_between_whole (pos 0) (pos most_whole) (whole_of n) ≡ false
IsOutside sort.FromOne (number n) =
    is_between_whole (pos 1) (pos most_whole) (whole_of n) ≡ false
IsOutside sort.DelayLimit (number n) =
    is_between_whole (pos 1) (pos 31622399) (whole_of n) ≡ false
IsOutside sort.Rate (number n) =
    is_between (pos 1000000000) (pos 1000000000000) (units_of n) ≡ false
IsOutside sort.Timestamp (text t) = HasMoment t → ⊥
IsOutside sort.Jitter (text t) = is_jitter t ≡ false
IsOutside sort.Machines (list ds) = (item_count ds ≡ 0) ⊎ (999999999 < item_count ds)
IsOutside sort.Rules (list ds) = item_count ds ≡ 0
IsOutside sort.InnerRules (list ds) = item_count ds ≡ 0
IsOutside sort.ErrorNames (list ds) = item_count ds ≡ 0
IsOutside s d = ⊥

-- F7: a state whose name is empty or too long, or a value outside of its range or list
pub data IsOutOfRange (d : Data) (place : List Step) : Type 0 where
  of_a_name : (name : List ℕ) → IsState (whole d) place name → is_name name ≡ false
      → IsOutOfRange d place
  of_a_value : Stands IsOutside d place → IsOutOfRange d place

-- F13: a text that is to be a path and is none; of a result's place, no path into the input
abbrev pub IsNoPath : Sort → Data → Type 0
IsNoPath sort.Path (text t) = IsPath t → ⊥
IsNoPath sort.PathOrNull (text t) = IsPath t → ⊥
IsNoPath sort.PlaceOrNull (text t) = StartsFrom Input t → ⊥
IsNoPath sort.PathOrCall (text t) = (is_path t ≡ true) × (IsPath t → ⊥)
IsNoPath sort.Computed (text t) = (is_path t ≡ true) × (IsPath t → ⊥)
IsNoPath s d = ⊥

-- F14: a text without `$` at its head that is to be a call of an intrinsic function and is none
abbrev pub IsNoCall : Sort → Data → Type 0
IsNoCall sort.PathOrCall (text t) = (is_path t ≡ false) × (IsCall t → ⊥)
IsNoCall sort.Computed (text t) = (is_path t ≡ false) × (IsCall t → ⊥)
IsNoCall s d = ⊥
