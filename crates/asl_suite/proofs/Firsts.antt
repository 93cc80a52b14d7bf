-- The first of a list for which something doesn't hold.
use Rattle.std.proofs.Common.{◌≡◌, ◌<◌, ◌+◌, ℕ, List, ◌∷◌, length, get_or, drop, true, false, if◌then◌else◌, sym, ap, ◌∙◌}
use Rattle.std.specs.Prelude.{Bool, Some}
use Rattle.std.proofs.lemmas.List.{drop_more}
use Rattle.asl_suite.specs.Reasons.{first_not}

front : {A : Type 0} (xs : List A) (i : ℕ) (x : A) → i < length xs → x ≡ get_or xs i x → drop i xs ≡ x ∷ drop (i + 1) xs
front {A = A} xs i x lt at = drop_more xs i x lt ∙ ap (λ (y : A). y ∷ drop (i + 1) xs) (sym at)

-- it isn't one for which it holds
pub passed_over : {A : Type 0} (f : A → Bool) (xs : List A) (i : ℕ) (x : A) → i < length xs → x ≡ get_or xs i x → f x ≡ true → first_not f (drop (i + 1) xs) ≡ first_not f (drop i xs)
passed_over {A = A} f xs i x lt at met =
    sym (ap (first_not f) (front xs i x lt at) ∙ ap (λ (b : Bool). if b then first_not f (drop (i + 1) xs) else Some x) met)

-- it is this one
pub found : {A : Type 0} (f : A → Bool) (xs : List A) (i : ℕ) (x : A) → i < length xs → x ≡ get_or xs i x → f x ≡ false → Some x ≡ first_not f (drop i xs)
found {A = A} f xs i x lt at unmet =
    sym (ap (first_not f) (front xs i x lt at) ∙ ap (λ (b : Bool). if b then first_not f (drop (i + 1) xs) else Some x) unmet)
