-- Lines that are put one after another.
use Rattle.std.proofs.Common.{ℕ, ◌≡◌, ◌<◌, ◌+◌, ◌++◌, ◌∙◌, ap, sym, List, ◌∷◌, length, get_or, drop}
use Rattle.std.specs.List.{flat_map}
use Rattle.std.proofs.lemmas.List.{drop_more, append_assoc}

-- the line of one more item
pub put-more : {A : Type 0} (f : A → List ℕ) (xs : List A) (i : ℕ) (a : A) (out new start : List ℕ) → i < length xs → a ≡ get_or xs i a → new ≡ out ++ f a → out ++ flat_map f (drop i xs) ≡ start → new ++ flat_map f (drop (i + 1) xs) ≡ start
put-more f xs i a out new start l at e h =
    let next : drop i xs ≡ a ∷ drop (i + 1) xs = drop_more xs i a l ∙ ap (λ x. x ∷ drop (i + 1) xs) (sym at) in
    ap (λ ys. ys ++ flat_map f (drop (i + 1) xs)) e ∙ append_assoc out (f a) (flat_map f (drop (i + 1) xs)) ∙ ap (λ ys. out ++ flat_map f ys) (sym next) ∙ h
