-- Lists that agree place by place, and lists that are gone through to the end.
use Rattle.std.proofs.Common.{ℕ, suc, ◌≡◌, ◌<◌, ◌≤◌, ◌+◌, ◌++◌, ◌||◌, ◌∙◌, ap, sym, refl, subst, arith, cond, Bool, true, false, List, [], ◌∷◌, length, get_or, set, take, map, max, count_by, append_assoc, append-nil}
use Rattle.std.specs.Prelude.{nat_eq}
use Rattle.std.specs.List.{list_any}
use Rattle.std.proofs.lemmas.Bool.Decides.{nat_tests}
use Rattle.std.proofs.lemmas.List.{take_all, take_more, map_more, get_or_read, get_or-set_other, length-set}
use Rattle.std.proofs.lemmas.List.Sums.{sum_by-cons}
use Rattle.std.proofs.lemmas.Grind.{get_or-set_at}
use Rattle.asl_explore.specs.Remarks.{AreTold, greatest}

-- two tests agree on two lists
abbrev pub Agree : {A B : Type 0} → (A → Bool) → (B → Bool) → List A → List B → Type 0
Agree {A} {B} f g xs ys = (k : ℕ) (d : A) (e : B) → k < length xs → f (get_or xs k d) ≡ g (get_or ys k e)

module _ {A B : Type 0} (f : A → Bool) (g : B → Bool) where
  pub any-like : (xs : List A) (ys : List B) → length xs ≡ length ys → Agree f g xs ys → list_any f xs ≡ list_any g ys
  any-like [] [] l h = refl
  any-like [] (y ∷ ys) l h = absurd (omega arith)
  any-like (x ∷ xs) [] l h = absurd (omega arith)
  any-like (x ∷ xs) (y ∷ ys) l h =
      let here = h 0 x y (omega arith) in
      let rest = any-like xs ys (omega arith) (λ k d e lt. h (suc k) d e (omega arith)) in
      λ i. here i || rest i

  pub count-like : (xs : List A) (ys : List B) → length xs ≡ length ys → Agree f g xs ys → count_by f xs ≡ count_by g ys
  count-like [] [] l h = refl
  count-like [] (y ∷ ys) l h = absurd (omega arith)
  count-like (x ∷ xs) [] l h = absurd (omega arith)
  count-like (x ∷ xs) (y ∷ ys) l h =
      let here = h 0 x y (omega arith) in
      let rest = count-like xs ys (omega arith) (λ k d e lt. h (suc k) d e (omega arith)) in
      sum_by-cons (λ z. cond (f z) 1 0) x xs ∙ (λ i. cond (here i) 1 0 + rest i) ∙ sym (sum_by-cons (λ z. cond (g z) 1 0) y ys)

-- ---- the greatest

pub greatest-push : (ns : List ℕ) (n : ℕ) → greatest (ns ++ n ∷ []) ≡ max (greatest ns) n
greatest-push [] n = omega arith
greatest-push (m ∷ ns) n = let e = greatest-push ns n in ap (max m) e ∙ omega arith

pub greatest-more : {A : Type 0} (f : A → ℕ) (xs : List A) (i : ℕ) (d : A) → i < length xs → greatest (map f (take (i + 1) xs)) ≡ max (greatest (map f (take i xs))) (f (get_or xs i d))
greatest-more f xs i d l = ap greatest (map_more f xs i d l) ∙ greatest-push (map f (take i xs)) (f (get_or xs i d))

-- ---- one that is written over

pub written-at : {A : Type 0} (P : A → Type 0) (xs : List A) (i n : ℕ) (y d : A) → n < length xs → (n ≡ i → P y) → ((n ≡ i → ⊥) → P (get_or xs n d)) → P (get_or (set xs i y) n d)
written-at P xs i n y d l here other = by (nat_eq n i) refl
  where
    by : (c : Bool) → nat_eq n i ≡ c → P (get_or (set xs i y) n d)
    by true e = let q : n ≡ i = grind (arith, nat_tests, e) in subst P (sym (get_or-set_at xs i n y d q (omega (arith, q, l)))) (here q)
    by false e = let q : n ≡ i → ⊥ = λ h. grind (arith, nat_tests, e, h) in subst P (sym (get_or-set_other xs i n y d q)) (other q)

-- ---- what is told one after another

module _ {S A : Type 0} (P : S → List A → Type 0) where
  told-push : (ts : List S) (t : S) (xs ys : List A) → AreTold P ts xs → P t ys → AreTold P (ts ++ t ∷ []) (xs ++ ys)
  told-push [] t xs ys h p = (ys, ([], (ap (λ z. z ++ ys) h ∙ sym (append-nil ys), (p, refl))))
  told-push (u ∷ ts) t xs ys h p =
      let first = h.0 in
      let rest = h.1.0 in
      (first, (rest ++ ys, (ap (λ z. z ++ ys) h.1.1.0 ∙ append_assoc first rest ys, (h.1.1.1.0, told-push ts t rest ys h.1.1.1.1 p))))

  pub told-more : (ts : List S) (i : ℕ) (t : S) (xs ys : List A) → i < length ts → t ≡ get_or ts i t → AreTold P (take i ts) xs → P t ys → AreTold P (take (i + 1) ts) (xs ++ ys)
  told-more ts i t xs ys l at h p = subst (λ us. AreTold P us (xs ++ ys)) (sym (take_more ts i t l ∙ ap (λ z. take i ts ++ z ∷ []) (sym at))) (told-push (take i ts) t xs ys h p)

  pub told-all : (ts : List S) (i : ℕ) (xs : List A) → length ts ≤ i → AreTold P (take i ts) xs → AreTold P ts xs
  told-all ts i xs le h = subst (λ us. AreTold P us xs) (take_all i ts le) h

-- ---- each changed in its turn

module _ {A : Type 0} (F : ℕ → A → A) (fs xs : List A) (i : ℕ) (x y : A) (many : length xs ≡ length fs) (l : i < length xs) (at : x ≡ get_or xs i x) (is : y ≡ F i x) where
  pub changed-done : ((n : ℕ) (d : A) → n < i → n < length xs → get_or xs n d ≡ F n (get_or fs n d)) → ((n : ℕ) (d : A) → i ≤ n → get_or xs n d ≡ get_or fs n d) → (n : ℕ) (d : A) → n < i + 1 → n < length (set xs i y) → get_or (set xs i y) n d ≡ F n (get_or fs n d)
  changed-done done left n d lt within =
      let long = length-set xs i y in
      written-at (λ z. z ≡ F n (get_or fs n d)) xs i n y d (omega (arith, within, long))
      (λ q. is ∙ ap (F i) (get_or_read xs i x l at d ∙ left i d (omega arith)) ∙ ap (λ k. F k (get_or fs k d)) (sym q))
      (λ ne. done n d (omega (arith, lt, ne)) (omega (arith, within, long)))

  pub changed-left : ((n : ℕ) (d : A) → i ≤ n → get_or xs n d ≡ get_or fs n d) → (n : ℕ) (d : A) → i + 1 ≤ n → get_or (set xs i y) n d ≡ get_or fs n d
  changed-left left n d le = get_or-set_other xs i n y d (λ q. omega (arith, q, le)) ∙ left n d (omega (arith, le))
