-- Lists the other way round.
use Rattle.std.proofs.Common.{◌≡◌, List, [], ◌∷◌, ◌++◌, map, reverse, refl, sym, ap, ◌∙◌}
use Rattle.std.proofs.lemmas.List.{map_push}
use mathlib.Core.List.{reverse-cons}

pub map_turned : {A B : Type 0} (f : A → B) (xs : List A) → map f (reverse xs) ≡ reverse (map f xs)
map_turned f [] = refl
map_turned f (x ∷ xs) =
    ap (map f) (reverse-cons x xs) ∙ map_push f (reverse xs) x ∙ ap (λ ys. ys ++ f x ∷ []) (map_turned f xs) ∙ sym (reverse-cons (f x) (map f xs))
