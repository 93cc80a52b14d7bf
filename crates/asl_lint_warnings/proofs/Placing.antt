-- The numbers of states by their names, state by state; and nodes without edges.
use Rattle.std.proofs.Common.{◌≡◌, ◌<◌, ◌+◌, ◌∷◌, ◌++◌, ◌∙◌, [], List, ℕ, zero, suc, length, get_or, drop, Option, Some, cond, refl, sym, ap, add-one}
use Rattle.std.specs.Str.{bytes_eq}
use Rattle.std.proofs.lemmas.List.{drop_more}
use Rattle.asl_json_data.specs.Data.{pairs}
use Rattle.asl_json.specs.View.{members_of}
use Rattle.asl_json.specs.declared.value.Member.{Member}
use Rattle.asl_lint_warnings.specs.Graphs.{place_from}

pub places_step : (ms : List Member) (i : ℕ) (m : Member) (before after all : Option ℕ) (k : List ℕ) → i < length ms → m ≡ get_or ms i m
    → place_from i before (pairs (members_of (drop i ms))) k ≡ all
    → after ≡ cond (bytes_eq m.key k) (Some i) before
    → place_from (i + 1) after (pairs (members_of (drop (i + 1) ms))) k ≡ all
places_step ms i m before after all k lt at so_far is =
    let d : drop i ms ≡ m ∷ drop (i + 1) ms = drop_more ms i m lt ∙ ap (λ (x : Member). x ∷ drop (i + 1) ms) (sym at) in
    let rest = pairs (members_of (drop (i + 1) ms)) in
    ap (λ (n : ℕ). place_from n after rest k) (add-one i)
    ∙ ap (λ (o : Option ℕ). place_from (suc i) o rest k) is
    ∙ ap (λ (xs : List Member). place_from i before (pairs (members_of xs)) k) (sym d)
    ∙ so_far

pub bare_more : (xs : List (List ℕ)) → ((i : ℕ) → get_or xs i [] ≡ []) → (i : ℕ) → get_or (xs ++ [] ∷ []) i [] ≡ []
bare_more [] h zero = refl
bare_more [] h (suc i) = refl
bare_more (x ∷ xs) h zero = h zero
bare_more (x ∷ xs) h (suc i) = bare_more xs (λ n. h (suc n)) i
