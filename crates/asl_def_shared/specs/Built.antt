-- What the parts of a state are read from, and what is made of them.
use Rattle.std.specs.Prelude.{◌≡◌, ℕ, List, [], ◌∷◌, Bool, true, false, Some, codes, option_map}
use Rattle.asl_json_data.specs.Data.{Pairs, pairs}
use Rattle.asl_json.specs.Meaning.{value_at}
use Rattle.asl_json_data.specs.Distinct.{AreDistinct}
use Rattle.asl_def_schema.specs.declared.sort.Sort.TheVariants.{Retriers, Catchers, Target, Truth}
use Rattle.asl_def_schema.specs.declared.sort.Kind.{Kind}
use Rattle.asl_def_schema.specs.declared.sort.Kind.TheVariants as kind
use Rattle.asl_def_schema.specs.Members.{Row, Shape, state_shape, kind_named, sort_at}
use Rattle.asl_def_schema.specs.Canon.{Named, canon, kept_at}
use Rattle.asl_def_schema.specs.Clean.{IsCleanInside}
use Rattle.asl_def_fields.specs.Shown.{path_shown}
use Rattle.asl_def_shared.specs.declared.completion.Completion.{Completion}
use Rattle.asl_def_shared.specs.Parts.{Slots, next_shown, end_shown}
use Rattle.asl_def_shared.specs.Parts.{listed}

-- nothing is wrong with the members of a state of this type
pub record IsOfKind (k : Kind) (ms : List Named) : Type 0 where
  pub names : List ℕ → Bool
  pub is : kind_named (value_at (codes "Type") (pairs ms)) ≡ Some k
  pub inside : IsCleanInside names (state_shape (Some k)) (pairs ms)
  pub distinct : AreDistinct [] ms

-- the types of states that have a result or an error
abbrev pub has_completion : Kind → Bool
has_completion kind.Task = true
has_completion kind.Parallel = true
has_completion kind.Map = true
has_completion k = false

abbrev pub of_any_type : Kind → Bool
of_any_type k = true

-- nothing is wrong with the members of a state of one of these types
pub record IsOfAny (p : Kind → Bool) (ms : List Named) : Type 0 where
  pub kind : Kind
  pub chosen : p kind ≡ true
  pub is : IsOfKind kind ms

-- members are those of the canonical form, row by row
abbrev pub Shows : Shape → Pairs → List Row → Slots → Type 0
Shows sh ms [] [] = Unit {0}
Shows sh ms (r ∷ rs) (m ∷ os) =
    (m.0 ≡ r.name) × (m.1 ≡ kept_at r.name (sort_at sh r.name) ms) × Shows sh ms rs os
Shows sh ms rs os = ⊥

-- what becomes of a result is as the members say
pub record IsCompletion (ms : Pairs) (o : Completion) : Type 0 where
  pub result_selector : o.result_selector ≡ value_at (codes "ResultSelector") ms
  pub result_path : path_shown o.result_path ≡ value_at (codes "ResultPath") ms
  pub output_path : path_shown o.output_path ≡ value_at (codes "OutputPath") ms
  pub retry : listed o.retry ≡ option_map (canon Retriers) (value_at (codes "Retry") ms)
  pub catch : listed o.catch ≡ option_map (canon Catchers) (value_at (codes "Catch") ms)
  pub next : next_shown o.next ≡ kept_at (codes "Next") Target ms
  pub ends : end_shown o.next ≡ kept_at (codes "End") Truth ms
