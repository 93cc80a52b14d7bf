-- Where rules and their conditions stand.
use Rattle.std.proofs.Common.{◌≡◌, ℕ, suc, ◌+◌, List, ◌∷◌, refl, sym, ap, ◌∙◌, arith}
use Rattle.std.specs.Prelude.{Option, None, Some, option_map}
use Rattle.std.specs.List.{slice_get}
use Rattle.std.proofs.lemmas.Option.{slice_get-map}
use Rattle.asl_json_data.specs.Data.{Data}
use Rattle.asl_json_data.specs.Distinct.{Members}
use Rattle.asl_lint_choices.specs.Conditions.{condition, all_conditions}

-- these are all from number n on
abbrev pub StandsAt : {A : Type 0} → List A → ℕ → List A → Type 0
StandsAt all n xs = (k : ℕ) → slice_get xs k ≡ slice_get all (k + n)

pub stands_all : {A : Type 0} (all : List A) → StandsAt all 0 all
stands_all all k = ap (slice_get all) (omega (arith))

pub stands_on : {A : Type 0} (all xs : List A) (n : ℕ) (x : A) → StandsAt all n (x ∷ xs) → StandsAt all (n + 1) xs
stands_on all xs n x h k = h (suc k) ∙ ap (slice_get all) (omega (arith))

pub stands_first : {A : Type 0} (all xs : List A) (n : ℕ) (x : A) → StandsAt all n (x ∷ xs) → slice_get all n ≡ Some x
stands_first all xs n x h = ap (slice_get all) (omega (arith)) ∙ sym (h 0)

-- the rule of this number asks this
pub record HasCondition (rules : List Data) (n : ℕ) (c : Members) : Type 0 where
  pub rule : Data
  pub at : slice_get rules n ≡ Some rule
  pub asks : condition rule ≡ c

in_option : (rules : List Data) (n : ℕ) (c : Members) (o : Option Data) → slice_get rules n ≡ o → option_map condition o ≡ Some c
    → HasCondition rules n c
in_option rules n c (Some d) is e = record { rule = d; at = is; asks = cc e }
in_option rules n c None is e = absurd (cc e)

pub has_condition : (rules : List Data) (n : ℕ) (c : Members) → slice_get (all_conditions rules) n ≡ Some c → HasCondition rules n c
has_condition rules n c e = in_option rules n c (slice_get rules n) refl (sym (slice_get-map condition rules n) ∙ e)
