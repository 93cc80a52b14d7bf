-- The text of a place, from the outermost step in.
use Rattle.std.proofs.Common.{◌≡◌, ℕ, ◌+◌, ◌-◌, ◌<◌, List, [], ◌∷◌, ◌++◌, length, get_or, drop, reverse, refl, sym, ◌∙◌, ap, append_assoc, arith}
use Rattle.std.specs.Prelude.{map}
use Rattle.std.specs.List.{flat_map}
use Rattle.std.proofs.lemmas.Grind.{flat_map-append}
use Rattle.std.proofs.lemmas.List.{append-nil, drop_more, reverse-append}
use Rattle.asl_json_write.specs.Pointers.{escaped_char}

map_same : (xs : List ℕ) → map (λ c. c) xs ≡ xs
map_same [] = refl
map_same (x ∷ xs) = ap (λ (ys : List ℕ). x ∷ ys) (map_same xs)

pub one_more : {X : Type 0} (f : X → List ℕ) (xs : List X) (x : X) → flat_map f (xs ++ x ∷ []) ≡ flat_map f xs ++ f x
one_more f xs x = flat_map-append f xs (x ∷ []) ∙ ap (λ (ys : List ℕ). flat_map f xs ++ ys) (append-nil (f x))

-- the text of a place whose steps are kept with the innermost one first, one step further in
pub one_further : {X : Type 0} (part : X → List ℕ) (ss : List X) (i : ℕ) (s : X) (old new : List ℕ) → i < length ss → s ≡ get_or ss (length ss - 1 - i) s → old ≡ flat_map part (reverse (drop (length ss - i) ss)) → new ≡ old ++ part s → new ≡ flat_map part (reverse (drop (length ss - (i + 1)) ss))
one_further {X} part ss i s old new lt at so_far is =
    let j = length ss - 1 - i in
    let within : j < length ss = omega arith in
    let here : length ss - (i + 1) ≡ j = omega arith in
    let next : length ss - i ≡ j + 1 = omega arith in
    let front : drop j ss ≡ s ∷ drop (j + 1) ss = drop_more ss j s within ∙ ap (λ (x : X). x ∷ drop (j + 1) ss) (sym at) in
    let turned : reverse (drop j ss) ≡ reverse (drop (j + 1) ss) ++ s ∷ [] = ap reverse front ∙ reverse-append (s ∷ []) (drop (j + 1) ss) in
    is ∙ ap (λ (x : List ℕ). x ++ part s) (so_far ∙ ap (λ (n : ℕ). flat_map part (reverse (drop n ss))) next)
    ∙ sym (one_more part (reverse (drop (j + 1) ss)) s) ∙ ap (flat_map part) (sym turned) ∙ ap (λ (n : ℕ). flat_map part (reverse (drop n ss))) (sym here)

pub name_step : (start old new ys : List ℕ) (c : ℕ) → old ≡ start ++ flat_map escaped_char ys → new ≡ old ++ escaped_char c → new ≡ start ++ flat_map escaped_char (ys ++ c ∷ [])
name_step start old new ys c so_far is = is ∙ ap (λ (x : List ℕ). x ++ escaped_char c) so_far ∙ append_assoc start (flat_map escaped_char ys) (escaped_char c) ∙ ap (λ (x : List ℕ). start ++ x) (sym (one_more escaped_char ys c))

pub name_end : (start out ys cs : List ℕ) → out ≡ start ++ flat_map escaped_char ys → map (λ c. c) ys ≡ cs → out ≡ start ++ flat_map escaped_char cs
name_end start out ys cs so_far all = so_far ∙ ap (λ (x : List ℕ). start ++ flat_map escaped_char x) (sym (map_same ys) ∙ all)
