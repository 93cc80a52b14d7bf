-- Places apart.
use Rattle.std.proofs.Common.{ℕ, ◌≡◌, ◌==◌, Bool, true, false, List, [], ◌∷◌, ◌++◌, refl, sym, ◌∙◌, subst}
use Rattle.std.proofs.lemmas.Bool.{and_parts, and_from, both_ways, eqb-true, eq-eqb, false_from_ne_true}
use Rattle.asl_history.specs.Places.{is_prefix, is_child, is_beside}
use Rattle.asl_run_branches.specs.Branches.{same_place, is_elder}
use Rattle.asl_run_branches.proofs.Linking.{same-eq}

-- neither place is the other or is above it
pub record IsApart (p q : List ℕ) : Type 0 where
  pub left : is_prefix p q ≡ false
  pub right : is_prefix q p ≡ false

pub apart-sym : (p q : List ℕ) → IsApart p q → IsApart q p
apart-sym p q a = record { left = a.right; right = a.left }

pub prefix-self : (p : List ℕ) → is_prefix p p ≡ true
prefix-self [] = refl
prefix-self (i ∷ p) = and_from _ _ (eq-eqb i i refl) (prefix-self p)

pub prefix-append : (p x : List ℕ) → is_prefix p (p ++ x) ≡ true
prefix-append [] x = refl
prefix-append (i ∷ p) x = and_from _ _ (eq-eqb i i refl) (prefix-append p x)

pub prefix-trans : (p x q : List ℕ) → is_prefix p x ≡ true → is_prefix x q ≡ true → is_prefix p q ≡ true
prefix-trans [] x q u v = refl
prefix-trans (i ∷ p) [] q u v = (cc)
prefix-trans (i ∷ p) (j ∷ x) [] u v = v
prefix-trans (i ∷ p) (j ∷ x) (k ∷ q) u v =
    let a = and_parts (i == j) (is_prefix p x) u in
    let b = and_parts (j == k) (is_prefix x q) v in
    and_from _ _ (eq-eqb i k (eqb-true i j a.0 ∙ eqb-true j k b.0)) (prefix-trans p x q a.1 b.1)

-- of two places above one place one is above the other
pub above-both : (p q x : List ℕ) → IsApart p q → is_prefix p x ≡ true → is_prefix q x ≡ true → ⊥
above-both [] q x a u v = both_ways true a.left refl
above-both (i ∷ p) [] x a u v = both_ways true a.right refl
above-both (i ∷ p) (j ∷ q) [] a u v = both_ways false refl u
above-both (i ∷ p) (j ∷ q) (k ∷ x) a u v =
    let b = and_parts (i == k) (is_prefix p x) u in
    let c = and_parts (j == k) (is_prefix q x) v in
    let e : i ≡ j = eqb-true i k b.0 ∙ sym (eqb-true j k c.0) in
    let ij : (i == j) ≡ true = eq-eqb i j e in
    let ji : (j == i) ≡ true = eq-eqb j i (sym e) in
    above-both p q x (record { left = rw ij at a.left; right = rw ji at a.right }) b.1 c.1

child-above : (p x : List ℕ) → is_child p x ≡ true → is_prefix p x ≡ true
child-above [] x h = refl
child-above (i ∷ p) [] h = h
child-above (i ∷ p) (j ∷ x) h = let a = and_parts (i == j) (is_child p x) h in and_from _ _ a.0 (child-above p x a.1)

-- ---- tests that pass no place at p or under it

abbrev pub MissesUnder : List ℕ → (List ℕ → Bool) → Type 0
MissesUnder p T = (x : List ℕ) → is_prefix p x ≡ true → T x ≡ false

pub same-misses : (p q : List ℕ) → is_prefix p q ≡ false → MissesUnder p (same_place q)
same-misses p q a x u = false_from_ne_true (same_place q x) (λ h. both_ways (is_prefix p q) a (subst (λ z. is_prefix p z ≡ true) (sym (same-eq q x h)) u))

pub child-misses : (p q : List ℕ) → IsApart p q → MissesUnder p (is_child q)
child-misses p q a x u = false_from_ne_true (is_child q x) (λ h. above-both p q x a u (child-above q x h))

pub above-misses : (p q : List ℕ) → is_prefix p q ≡ false → MissesUnder p (λ x. is_prefix x q)
above-misses p q a x u = false_from_ne_true (is_prefix x q) (λ h. both_ways (is_prefix p q) a (prefix-trans p x q u h))

pub parent-misses : (p q : List ℕ) → is_prefix p q ≡ false → MissesUnder p (λ x. is_child x q)
parent-misses p q a x u = false_from_ne_true (is_child x q) (λ h. both_ways (is_prefix p q) a (prefix-trans p x q u (child-above x q h)))

-- ---- tests that pass no child of p

abbrev pub MissesChildren : List ℕ → (List ℕ → Bool) → Type 0
MissesChildren p T = (i : ℕ) → T (p ++ i ∷ []) ≡ false

beside-above : (p q : List ℕ) (i : ℕ) → is_beside q (p ++ i ∷ []) ≡ true → is_prefix p q ≡ true
beside-above [] q i h = refl
beside-above (x ∷ []) [] i h = h
beside-above (x ∷ z ∷ p) [] i h = h
beside-above (x ∷ []) (y ∷ q) i h = and_from _ _ (eq-eqb x y (sym (eqb-true y x (and_parts (y == x) (is_beside q (i ∷ [])) h).0))) refl
beside-above (x ∷ z ∷ p) (y ∷ q) i h =
    let a = and_parts (y == x) (is_beside q (z ∷ (p ++ i ∷ []))) h in
    and_from _ _ (eq-eqb x y (sym (eqb-true y x a.0))) (beside-above (z ∷ p) q i a.1)

elder-above : (p q : List ℕ) (i : ℕ) → is_elder q (p ++ i ∷ []) ≡ true → is_prefix p q ≡ true
elder-above [] q i h = refl
elder-above (x ∷ p) [] i h = h
elder-above (x ∷ []) (y ∷ []) i h = (cc)
elder-above (x ∷ z ∷ p) (y ∷ []) i h = (cc)
elder-above (x ∷ p) (y ∷ w ∷ q) i h =
    let a = and_parts (y == x) (is_elder (w ∷ q) (p ++ i ∷ [])) h in
    and_from _ _ (eq-eqb x y (sym (eqb-true y x a.0))) (elder-above p (w ∷ q) i a.1)

pub beside-misses : (p q : List ℕ) → is_prefix p q ≡ false → MissesChildren p (is_beside q)
beside-misses p q a i = false_from_ne_true (is_beside q (p ++ i ∷ [])) (λ h. both_ways (is_prefix p q) a (beside-above p q i h))

pub elder-misses : (p q : List ℕ) → is_prefix p q ≡ false → MissesChildren p (is_elder q)
elder-misses p q a i = false_from_ne_true (is_elder q (p ++ i ∷ [])) (λ h. both_ways (is_prefix p q) a (elder-above p q i h))
