-- Texts that are known.
use Rattle.std.proofs.Common.{◌≡◌, ◌∙◌, ◌++◌, ◌-◌, ◌≤◌, arith, length, ℕ, zero, suc, List, [], ◌∷◌, Bool, true, false, refl, sym, ap}
use Rattle.std.specs.Prelude.{◌||◌, map, if◌then◌else◌, Option, None, option_map, slice_get}
use Rattle.std.specs.List.{list_any}
use Rattle.std.proofs.lemmas.List.{map-append}
use Rattle.asl_json.specs.Same.{bytes_eq}
use Rattle.asl_error_plans.specs.Grouping.{with_new, outcome_of}

module _ {X : Type 0} (view : X → List ℕ) where
  any_viewed : (t : List ℕ) (xs : List X) → list_any (λ x. bytes_eq (view x) t) xs ≡ list_any (λ (u : List ℕ). bytes_eq u t) (map view xs)
  any_viewed t [] = refl
  any_viewed t (x ∷ xs) = ap (λ (b : Bool). bytes_eq (view x) t || b) (any_viewed t xs)

  pub new_known : (t : List ℕ) (xs : List X) → list_any (λ x. bytes_eq (view x) t) xs ≡ true → map view xs ≡ with_new (map view xs) t
  new_known t xs h = ap (λ (b : Bool). if b then map view xs else map view xs ++ t ∷ []) (sym h ∙ any_viewed t xs)

  pub new_added : (t : List ℕ) (xs ys : List X) (x : X) → list_any (λ x. bytes_eq (view x) t) xs ≡ false → ys ≡ xs ++ x ∷ [] → view x ≡ t → map view ys ≡ with_new (map view xs) t
  new_added t xs ys x h all is =
      ap (map view) all ∙ map-append view xs (x ∷ []) ∙ ap (λ (u : List ℕ). map view xs ++ u ∷ []) is
      ∙ ap (λ (b : Bool). if b then map view xs else map view xs ++ t ∷ []) (sym h ∙ any_viewed t xs)

  -- the text of a number
  get_viewed : (xs : List X) (i : ℕ) → slice_get (map view xs) i ≡ option_map view (slice_get xs i)
  get_viewed [] i = refl
  get_viewed (x ∷ xs) zero = refl
  get_viewed (x ∷ xs) (suc i) = get_viewed xs i

  pub text_there : (n : ℕ) (xs : List X) (o : Option X) → (n ≡ 0 → ⊥) → o ≡ slice_get xs (n - 1) → option_map view o ≡ outcome_of n (map view xs)
  text_there zero xs o e at = absurd (e refl)
  text_there (suc m) xs o e at =
      let before : suc m - 1 ≡ m = omega arith in
      ap (option_map view) (at ∙ ap (slice_get xs) before) ∙ sym (get_viewed xs m)

pub none_past : {X : Type 0} (xs : List X) (i : ℕ) → length xs ≤ i → None ≡ slice_get xs i
none_past [] i h = refl
none_past (x ∷ xs) zero h = absurd (omega (arith, h))
none_past (x ∷ xs) (suc i) h = none_past xs i (omega (arith, h))
