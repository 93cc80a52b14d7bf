-- What in a value that is put out as it is looks computed: the Result of a Pass (Amazon States
-- Language, "Pass State").
use Rattle.std.specs.Prelude.{ℕ, suc, List, [], ◌∷◌, ◌++◌, Bool, true, false, ◌&&◌, Option, Some, codes, nat_eq, if◌then◌else◌}
use Rattle.std.specs.Fmt.{decimal}
use Rattle.std.specs.List.{ends_with}
use Rattle.asl_json_data.specs.Data.{Data, null, boolean, number, text, list, dict, Chain, no_items, item, Pairs, no_members, member}
use Rattle.asl_json.specs.Same.{bytes_eq}
use Rattle.asl_json.specs.Meaning.{value_at}
use Rattle.asl_def_schema.specs.declared.fault.Step.{Step}
use Rattle.asl_def_schema.specs.declared.sort.Kind.{Kind}
use Rattle.asl_def_schema.specs.declared.sort.Kind.TheVariants.{Pass}
use Rattle.asl_def_schema.specs.Members.{kind_named}
use Rattle.asl_def_schema.specs.Claims.{step}
use Rattle.asl_lint_warnings.specs.declared.warning.WarningKind.TheVariants as kind
use Rattle.asl_lint_warnings.specs.Kinds.{Noted, noted, kind_if}
use Rattle.asl_lint_warnings.specs.Texts.{seems_computed}

-- in a template its value would be computed
abbrev pub is_computed_key : List ℕ → Bool
is_computed_key k = ends_with nat_eq k (codes ".$")

abbrev mutual
  -- of a value at a place
  pub constant_warnings : List Step → Data → List Noted
  constant_warnings place null = []
  constant_warnings place (boolean b) = []
  constant_warnings place (number n) = []
  constant_warnings place (text t) = noted place (kind_if (seems_computed t) kind.NotComputed)
  constant_warnings place (list ds) = constant_items place 0 ds
  constant_warnings place (dict ms) = constant_members place 0 ms

  pub constant_items : List Step → ℕ → Chain → List Noted
  constant_items place i no_items = []
  constant_items place i (item d ds) =
      constant_warnings (step i (decimal i) ∷ place) d ++ constant_items place (suc i) ds

  pub constant_members : List Step → ℕ → Pairs → List Noted
  constant_members place i no_members = []
  constant_members place i (member k d ms) =
      (if is_computed_key k then (kind.NotComputed, step i k ∷ place) ∷ []
      else constant_warnings (step i k ∷ place) d)
      ++ constant_members place (suc i) ms

-- of the member of this key and value at a place: one mistake is told once
abbrev pub constant_member : List Step → List ℕ → Data → List Noted
constant_member place k d =
    if is_computed_key k then (kind.NotComputed, place) ∷ [] else constant_warnings place d

abbrev pub is_pass : Option Kind → Bool
is_pass (Some Pass) = true
is_pass o = false

-- the member of this key of a state is put out as it is
abbrev pub is_constant : Pairs → List ℕ → Bool
is_constant ms k =
    bytes_eq k (codes "Result") && is_pass (kind_named (value_at (codes "Type") ms))

-- of the member of this key and value of a state
abbrev pub result_warnings : List Step → Pairs → List ℕ → Data → List Noted
result_warnings place ms k d = if is_constant ms k then constant_warnings place d else []
