-- The order of findings, seen from that of what was sorted.
use Rattle.std.proofs.Common.{◌≡◌, ◌≤◌, ◌<◌, ℕ, suc, Bool, true, false, List, [], ◌∷◌, length, get_or, refl, sym, ap, subst, true≢false, ◌∙◌, arith}
use Rattle.std.specs.Prelude.{cond, map}
use Rattle.std.specs.List.{filter}
use Rattle.std.specs.List.Sorted.{IsNonDecreasingBy, IsStableByKey, ties}
use Rattle.std.specs.Ordering.{is_lt, nat_cmp}
use Rattle.std.proofs.lemmas.List.{get_or-map, length-map}
use Rattle.std.proofs.lemmas.List.Sorted.{IsPermutation-refl}
use Rattle.asl_json_data.specs.Data.{Data}
use Rattle.asl_lint.specs.declared.placing.Spanned.{Spanned}
use Rattle.asl_lint.specs.declared.finding.Found.{Found}
use Rattle.asl_lint.specs.Places.{ArePlaced, Ruled, begin_of}
use Rattle.asl_lint.specs.Told.{has_some}
use Rattle.asl_lint.specs.private.Founds.{noted, spanned}

pub rises_mapped : {A B : Type 0} (f : A → B) (n : B → ℕ) (xs : List A) → IsNonDecreasingBy (λ (x : A). n (f x)) xs → IsNonDecreasingBy n (map f xs)
rises_mapped f n [] up i j d le lt = absurd (omega (arith, lt))
rises_mapped f n (x ∷ xs) up i j d le lt =
    let short : j < length (x ∷ xs) = subst (λ (k : ℕ). j < k) (length-map (x ∷ xs) f) lt in
    rw (get_or-map f (x ∷ xs) i x d (omega (arith, le, short)), get_or-map f (x ∷ xs) j x d short) (up i j x le short)

kept : {A B : Type 0} (f : A → B) (b : Bool) (x : A) (xs : List A) (ys : List B) → ys ≡ map f xs → cond b (f x ∷ ys) ys ≡ map f (cond b (x ∷ xs) xs)
kept f true x xs ys e = ap (λ (zs : List _). f x ∷ zs) e
kept f false x xs ys e = e

filter_mapped : {A B : Type 0} (f : A → B) (p : B → Bool) (xs : List A) → filter p (map f xs) ≡ map f (filter (λ (x : A). p (f x)) xs)
filter_mapped f p [] = refl
filter_mapped f p (x ∷ xs) = kept f (p (f x)) x (filter (λ (y : _). p (f y)) xs) (filter p (map f xs)) (filter_mapped f p xs)

abbrev ties_with : Ruled → Ruled → Bool
ties_with r = ties (λ (a b : Ruled). is_lt (nat_cmp (begin_of a) (begin_of b))) r

pub stays_mapped : (xs ys : List Spanned) → IsStableByKey (λ (s : Spanned). s.span.begin) nat_cmp xs ys → length ys ≡ length xs → IsStableByKey begin_of nat_cmp (map spanned xs) (map spanned ys)
stays_mapped [] [] stable same r = refl
stays_mapped [] (y ∷ ys) stable same r = absurd (omega (arith, same))
stays_mapped (x ∷ xs) ys stable same r =
    let s : Spanned = record { span = r.1; found = x.found } in
    filter_mapped spanned (ties_with r) ys
    ∙ ap (λ (zs : List Spanned). map spanned zs) (stable s)
    ∙ sym (filter_mapped spanned (ties_with r) (x ∷ xs))

no_rise : IsNonDecreasingBy begin_of []
no_rise i j d le lt = absurd (omega (arith, lt))

-- where nothing was found
pub none_placed : (b : List ℕ) (d : Data) (fs : List Found) → has_some fs ≡ false → ArePlaced b d (map noted fs) []
none_placed b d [] none = record { pointed = []; point = tt; same = IsPermutation-refl []; sorted = no_rise; stable = λ r. refl }
none_placed b d (f ∷ fs) none = absurd (true≢false none)
