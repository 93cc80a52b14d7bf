-- Two lists, pair by pair.
use Rattle.std.proofs.Common.{◌≡◌, ◌∙◌, ℕ, ◌+◌, ◌<◌, List, [], ◌∷◌, ◌++◌, length, get_or, drop, ap, sym, subst, append_assoc, append-nil}
use Rattle.std.specs.Prelude.{Option, Some, None}
use Rattle.std.proofs.lemmas.List.{drop_more}
use Rattle.asl_lint_files.specs.Linted.{Each}

-- what is left goes on with what there is
abbrev pub GoesOn : {A B : Type 0} → (A → B → Type 0) → List A → List A → List B → Type 0
GoesOn {B = B} P all rest ys = (zs : List B) → Each P rest zs → Each P all (ys ++ zs)

pub begun : {A B : Type 0} (P : A → B → Type 0) (xs : List A) → GoesOn P xs xs []
begun P xs = λ zs h. h

-- one more of each
pub next : {A B : Type 0} (P : A → B → Type 0) (xs rest : List A) (x : A) (y : B) (old new : List B) → new ≡ old ++ y ∷ [] → P x y → GoesOn P xs (x ∷ rest) old → GoesOn P xs rest new
next {B = B} P xs rest x y old new more is before = λ zs h.
    let behind : new ++ zs ≡ old ++ y ∷ zs = ap (λ (ys : List B). ys ++ zs) more ∙ append_assoc old (y ∷ []) zs in
    subst (λ (ys : List B). Each P xs ys) (sym behind) (before (y ∷ zs) (is, h))

pub one_more : {A B : Type 0} (P : A → B → Type 0) (xs : List A) (i : ℕ) (d : A) (y : B) (old new : List B) → i < length xs → new ≡ old ++ y ∷ [] → P (get_or xs i d) y
    → GoesOn P xs (drop i xs) old → GoesOn P xs (drop (i + 1) xs) new
one_more {A = A} P xs i d y old new within more is before =
    next P xs (drop (i + 1) xs) (get_or xs i d) y old new more is (subst (λ (ws : List A). GoesOn P xs ws old) (drop_more xs i d within) before)

pub all_done : {A B : Type 0} (P : A → B → Type 0) (xs rest : List A) (ys : List B) → rest ≡ [] → GoesOn P xs rest ys → Each P xs ys
all_done {A = A} {B = B} P xs rest ys none before =
    subst (λ (zs : List B). Each P xs zs) (append-nil ys) (before [] (subst (λ (ws : List A). Each P ws []) (sym none) tt))

-- a text, if there is one
abbrev pub listed : Option (List ℕ) → List (List ℕ)
listed None = []
listed (Some b) = b ∷ []
