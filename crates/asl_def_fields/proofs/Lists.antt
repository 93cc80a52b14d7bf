-- Comparing the items of two lists one after another, by what they show.
use Rattle.std.proofs.Common.{◌≡◌, ◌≢◌, ◌∙◌, ◌≤◌, ◌<◌, ◌+◌, ℕ, zero, suc, Bool, true, false, List, [], ◌∷◌, refl, sym, ap, length, drop, get_or, add-one, arith}
use Rattle.std.specs.Prelude.{◌&&◌, map}
use Rattle.std.proofs.lemmas.List.{length-map}
use Rattle.asl_json_data.specs.Data.{Data, chain}
use Rattle.asl_json.specs.Same.{equal, equal_items}
use Rattle.asl_json.proofs.Equality.{unequal_items}
use Rattle.asl_json_write.proofs.Parts.{drop_next}

nothing : {A : Type 0} (i : ℕ) → drop {A = A} i [] ≡ []
nothing zero = refl
nothing (suc i) = refl

past : {A : Type 0} (xs : List A) (i : ℕ) → length xs ≤ i → drop i xs ≡ []
past [] i lt = nothing i
past (x ∷ xs) zero lt = absurd (omega (arith, lt))
past (x ∷ xs) (suc i) lt = past xs i (omega (arith, lt))

module _ {A B : Type 0} (f : A → Data) (g : B → Data) where
  -- what is behind these
  abbrev pub rest_equal : ℕ → List A → List B → Bool
  rest_equal i xs ys = equal_items (chain (map f (drop i xs))) (chain (map g (drop i ys)))

  pub other_length : (xs : List A) (ys : List B) → length xs ≢ length ys → false ≡ rest_equal 0 xs ys
  other_length xs ys ne = unequal_items (map f xs) (map g ys) (λ e. ne (sym (length-map xs f) ∙ e ∙ length-map ys g))

  pub step : (xs : List A) (ys : List B) (i : ℕ) (x : A) (y : B) → i < length xs → i < length ys → x ≡ get_or xs i x → y ≡ get_or ys i y → rest_equal i xs ys ≡ (equal (f x) (g y) && rest_equal (i + 1) xs ys)
  step xs ys i x y lx ly ex ey =
      rw (add-one i) (λ j. equal_items (chain (map f (drop_next xs i x lx (sym ex) j))) (chain (map g (drop_next ys i y ly (sym ey) j))))

  pub over : (xs : List A) (ys : List B) (i : ℕ) → length xs ≤ i → length ys ≤ i → rest_equal i xs ys ≡ true
  over xs ys i lx ly = λ j. equal_items (chain (map f (past xs i lx j))) (chain (map g (past ys i ly j)))

  -- one item differs
  pub stops : (xs : List A) (ys : List B) (i : ℕ) (x : A) (y : B) (all : Bool) → i < length xs → i < length ys → x ≡ get_or xs i x → y ≡ get_or ys i y → equal (f x) (g y) ≡ false → rest_equal i xs ys ≡ all → false ≡ all
  stops xs ys i x y all lx ly ex ey n is = sym (step xs ys i x y lx ly ex ey ∙ ap (λ b. b && rest_equal (i + 1) xs ys) n) ∙ is

  pub goes_on : (xs : List A) (ys : List B) (i : ℕ) (x : A) (y : B) (all : Bool) → i < length xs → i < length ys → x ≡ get_or xs i x → y ≡ get_or ys i y → equal (f x) (g y) ≡ true → rest_equal i xs ys ≡ all → rest_equal (i + 1) xs ys ≡ all
  goes_on xs ys i x y all lx ly ex ey h is = sym (step xs ys i x y lx ly ex ey ∙ ap (λ b. b && rest_equal (i + 1) xs ys) h) ∙ is
