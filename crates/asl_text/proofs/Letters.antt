-- Texts that are gone through character by character.
use Rattle.std.proofs.Common.{◌≡◌, ℕ, List, [], ◌∷◌, ◌++◌, refl, sym, ◌∙◌, ap, append_assoc}
use Rattle.std.specs.Prelude.{map}
use Rattle.std.specs.List.{flat_map}
use Rattle.std.proofs.lemmas.Grind.{flat_map-append}
use Rattle.std.proofs.lemmas.List.{append-nil}

map_same : (xs : List ℕ) → map (λ c. c) xs ≡ xs
map_same [] = refl
map_same (x ∷ xs) = ap (λ (ys : List ℕ). x ∷ ys) (map_same xs)

one_more : (f : ℕ → List ℕ) (xs : List ℕ) (x : ℕ) → flat_map f (xs ++ x ∷ []) ≡ flat_map f xs ++ f x
one_more f xs x = flat_map-append f xs (x ∷ []) ∙ ap (λ (ys : List ℕ). flat_map f xs ++ ys) (append-nil (f x))

-- those gone through are all
pub whole : (ys cs : List ℕ) → map (λ c. c) ys ≡ cs → ys ≡ cs
whole ys cs e = sym (map_same ys) ∙ e

pub step : (f : ℕ → List ℕ) (start old new ys : List ℕ) (c : ℕ) → old ≡ start ++ flat_map f ys → new ≡ old ++ f c → new ≡ start ++ flat_map f (ys ++ c ∷ [])
step f start old new ys c so_far is = is ∙ ap (λ (x : List ℕ). x ++ f c) so_far ∙ append_assoc start (flat_map f ys) (f c) ∙ ap (λ (x : List ℕ). start ++ x) (sym (one_more f ys c))

pub end : (f : ℕ → List ℕ) (start out ys cs : List ℕ) → out ≡ start ++ flat_map f ys → map (λ c. c) ys ≡ cs → out ≡ start ++ flat_map f cs
end f start out ys cs so_far all = so_far ∙ ap (λ (x : List ℕ). start ++ flat_map f x) (sym (map_same ys) ∙ all)
