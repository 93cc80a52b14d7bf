-- The warnings of a definition, in document order; those of the rules of a Choice beside each other, and
-- of Ands in them, stand before the others of its rules.
use Rattle.std.specs.Prelude.{ℕ, suc, List, [], ◌∷◌, ◌++◌, Bool, false, not, ◌||◌, Option, None, if◌then◌else◌}
use Rattle.std.specs.Fmt.{decimal}
use Rattle.asl_json_data.specs.Data.{Data, null, boolean, number, text, list, dict, Chain, no_items, item, Pairs, no_members, member}
use Rattle.asl_json.specs.View.{unchained}
use Rattle.asl_def_schema.specs.declared.fault.Step.{Step}
use Rattle.asl_def_schema.specs.declared.sort.Sort.{Sort}
use Rattle.asl_def_schema.specs.declared.sort.Sort.TheVariants as sort
use Rattle.asl_def_schema.specs.Members.{shape_in, sort_at, item_sort, Shape}
use Rattle.asl_def_schema.specs.Claims.{step, is_list, is_object}
use Rattle.asl_lint_warnings.specs.declared.warning.WarningKind.{WarningKind}
use Rattle.asl_lint_warnings.specs.declared.warning.WarningKind.TheVariants as kind
use Rattle.asl_lint_warnings.specs.Kinds.{Noted, noted, kind_if}
use Rattle.asl_lint_warnings.specs.Texts.{text_kind}
use Rattle.asl_lint_warnings.specs.Handlers.{brings, item_kind}
use Rattle.asl_lint_warnings.specs.Choices.{rule_warnings}
use Rattle.asl_lint_warnings.specs.States.{state_kind, member_kind, default_kind, limit_kind, retrier_kind}
use Rattle.asl_lint_warnings.specs.Constants.{result_warnings}
use Rattle.asl_lint_warnings.specs.Graphs.{is_reached, is_ending}

-- where a value stands: the steps to it, the innermost first, and which states of the machine around it
-- are reached and lead to an end
pub record Spot : Type 0 where
  pub place : List Step
  pub reached : ℕ → Bool
  pub ending : ℕ → Bool

abbrev pub further : Spot → Step → Spot
further p s = record p { place = s ∷ p.place }

-- the members of a machine
abbrev pub in_machine : Spot → Pairs → Spot
in_machine p ms = record { place = p.place; reached = is_reached ms; ending = is_ending ms }

abbrev pub inside : Spot → Sort → Pairs → Spot
inside p sort.Definition ms = in_machine p ms
inside p sort.Machine ms = in_machine p ms
inside p sort.ItemProcessor ms = in_machine p ms
inside p s ms = p

-- of a value by itself
abbrev pub object_kind : Sort → Pairs → Option WarningKind
object_kind sort.State ms = state_kind ms
object_kind s ms = None

abbrev pub own_kind : Sort → Data → Option WarningKind
own_kind s (text t) = text_kind s t
own_kind s (dict ms) = object_kind s ms
own_kind s d = None

-- of the state of this number in its machine
abbrev pub standing : Spot → ℕ → List Noted
standing p i =
    noted p.place (kind_if (not (p.reached i)) kind.UnreachableState)
    ++ noted p.place (kind_if (not (p.ending i)) kind.NoEnd)

-- of a member beside the others of a state
abbrev pub in_state : Spot → Pairs → List ℕ → Data → List Noted
in_state p all k d =
    noted p.place (member_kind all k d)
    ++ (noted p.place (default_kind p.place all k d) ++ result_warnings p.place all k d)

-- of a member beside the others of an object of this sort
abbrev pub beside : Spot → Sort → Pairs → ℕ → List ℕ → Data → List Noted
beside p sort.Definition all i k d = noted p.place (limit_kind all k d)
beside p sort.States all i k d = standing p i
beside p sort.State all i k d = in_state p all k d
beside p sort.Retrier all i k d = noted p.place (retrier_kind all k d)
beside p s all i k d = []

-- of the items of a list of this sort beside each other
abbrev pub together : Spot → Sort → Chain → List Noted
together p sort.Rules ds = rule_warnings p.place (unchained ds)
together p s ds = []

abbrev mutual
  pub warnings : Spot → Sort → Data → List Noted
  warnings p s null = []
  warnings p s (boolean b) = []
  warnings p s (number n) = []
  warnings p s (text t) = noted p.place (text_kind s t)
  warnings p s (list ds) =
      if is_list s then together p s ds ++ item_warnings p s (λ n. false) 0 ds else []
  warnings p s (dict ms) =
      noted p.place (object_kind s ms)
      ++ (if is_object s
      then member_warnings (inside p s ms) s (shape_in s ms) ms 0 ms else [])

  -- behind other items of the list, which bring in these names
  pub item_warnings : Spot → Sort → (List ℕ → Bool) → ℕ → Chain → List Noted
  item_warnings p s listed i no_items = []
  item_warnings p s listed i (item d ds) =
      noted (step i (decimal i) ∷ p.place) (item_kind s listed d)
      ++ (warnings (further p (step i (decimal i))) (item_sort s) d
      ++ item_warnings p s (λ n. listed n || brings s d n) (suc i) ds)

  -- of an object of all these members
  pub member_warnings : Spot → Sort → Shape → Pairs → ℕ → Pairs → List Noted
  member_warnings p s sh all i no_members = []
  member_warnings p s sh all i (member k d ms) =
      beside (further p (step i k)) s all i k d
      ++ (warnings (further p (step i k)) (sort_at sh k) d
      ++ member_warnings p s sh all (suc i) ms)

abbrev pub object_warnings : Spot → Sort → Pairs → List Noted
object_warnings p s ms = member_warnings (inside p s ms) s (shape_in s ms) ms 0 ms

abbrev pub outside : Spot
outside = record { place = []; reached = λ i. false; ending = λ i. false }

abbrev pub warnings_of : Data → List Noted
warnings_of d = warnings outside sort.Definition d
