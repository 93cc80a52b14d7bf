-- Which event is the latest along a place: what the branches know of it.
use Rattle.std.specs.Prelude.{ℕ, ◌≡◌, ◌≤◌, ◌==◌, Bool, true, max, List, [], ◌∷◌, length, if◌then◌else◌}
use Rattle.std.specs.List.{AllByRecursion, list_any}
use Rattle.asl_history.specs.declared.event.Event.{Event}
use Rattle.asl_history.specs.Events.{previous_id, IsHistory}
use Rattle.asl_run_branches.specs.Branches.{same_place}
use Rattle.asl_run_branches.specs.Trees.{Held, Node}

-- what a branch knows of the latest event along p: above p the latest at itself, at p the latest at
-- it or under it
abbrev pub known : List ℕ → List ℕ → Held → ℕ
known [] [] h = h.under
known [] (y ∷ ys) h = 0
known (x ∷ xs) [] h = h.at
known (x ∷ xs) (y ∷ ys) h = if x == y then known xs ys h else 0

-- the latest event along p, by what all branches know
abbrev pub latest : List ℕ → List Node → ℕ
latest p [] = 0
latest p (n ∷ ns) = max (known p n.place n.held) (latest p ns)

abbrev pub is_there : List ℕ → List Node → Bool
is_there q ns = list_any (λ n. same_place q n.place) ns

abbrev pub KnowUpTo : ℕ → List Node → Type 0
KnowUpTo m ns = AllByRecursion (λ n. (n.held.at ≤ m) × (n.held.under ≤ m)) ns

-- at each place where a branch runs, the branches know the latest event along it
pub record IsLinked (ns : List Node) (es : List Event) : Type 0 where
  pub told : IsHistory es
  pub known : KnowUpTo (length es) ns
  pub links : (q : List ℕ) → is_there q ns ≡ true → latest q ns ≡ previous_id q es
