-- Branches are listed in the order of their places.
use Rattle.std.proofs.Common.{ℕ, ◌≡◌, ◌+◌, ◌<◌, ◌≤◌, ◌==◌, ◌&&◌, ◌||◌, Bool, true, false, List, [], ◌∷◌, ◌++◌, refl, sym, ◌∙◌, ap, subst, arith, map, take, length, get_or}
use Rattle.std.specs.Prelude.{nat_lt}
use Rattle.std.specs.List.{AllByRecursion}
use Rattle.std.proofs.lemmas.Grind.{common_steps}
use Rattle.std.proofs.lemmas.List.{map-append, take_more, take_all}
use Rattle.asl_run_branches.specs.Trees.{Spot, Family, pushed, below_of, branch_of, branches_of}
use Rattle.asl_run_branches.specs.Orders.{is_before, IsBeforeAll, AreInOrder}

-- the places of branches, as their frame sees them
abbrev pub places : List Spot → List (List ℕ)
places ss = map (λ s. s.number ∷ s.deeper) ss

abbrev pub inner : ℕ → List (List ℕ) → List (List ℕ)
inner i ps = map (λ p. i ∷ p) ps

places-pushed : (i : ℕ) (ss : List Spot) → places (map (pushed i) ss) ≡ inner i (places ss)
places-pushed i [] = refl
places-pushed i (s ∷ ss) = ap (λ (ps : List (List ℕ)). (i ∷ s.number ∷ s.deeper) ∷ ps) (places-pushed i ss)

places-branches : (ss : List Spot) → map (λ b. b.place) (map branch_of ss) ≡ places ss
places-branches [] = refl
places-branches (s ∷ ss) = ap (λ (ps : List (List ℕ)). (s.number ∷ s.deeper) ∷ ps) (places-branches ss)

-- ---- under one number

inner-one : (i : ℕ) (p q : List ℕ) → is_before p q ≡ true → is_before (i ∷ p) (i ∷ q) ≡ true
inner-one i p q h = by (nat_lt i i) (i == i) (grind (arith, common_steps)) h
  where
    by : (l e : Bool) → e ≡ true → is_before p q ≡ true → (l || (e && is_before p q)) ≡ true
    by true e s b = refl
    by false true s b = b
    by false false s b = cc

inner-all : (i : ℕ) (p : List ℕ) (qs : List (List ℕ)) → IsBeforeAll p qs → IsBeforeAll (i ∷ p) (inner i qs)
inner-all i p [] h = tt
inner-all i p (q ∷ qs) h = (inner-one i p q h.0, inner-all i p qs h.1)

inner-order : (i : ℕ) (ps : List (List ℕ)) → AreInOrder ps → AreInOrder (inner i ps)
inner-order i [] h = tt
inner-order i (p ∷ ps) h = (inner-all i p ps h.0, inner-order i ps h.1)

-- ---- from a number on

abbrev StartsFrom : ℕ → List ℕ → Type 0
StartsFrom i [] = ⊥
StartsFrom i (x ∷ xs) = i ≤ x

starts-more : (i : ℕ) (p : List ℕ) → StartsFrom (i + 1) p → StartsFrom i p
starts-more i [] h = h
starts-more i (x ∷ xs) h = omega (arith, h)

all-more : (i : ℕ) (ps : List (List ℕ)) → AllByRecursion (StartsFrom (i + 1)) ps → AllByRecursion (StartsFrom i) ps
all-more i [] h = tt
all-more i (p ∷ ps) h = (starts-more i p h.0, all-more i ps h.1)

all-both : (i : ℕ) (ps qs : List (List ℕ)) → AllByRecursion (StartsFrom i) ps → AllByRecursion (StartsFrom i) qs → AllByRecursion (StartsFrom i) (ps ++ qs)
all-both i [] qs h k = k
all-both i (p ∷ ps) qs h k = (h.0, all-both i ps qs h.1 k)

inner-starts : (i : ℕ) (ps : List (List ℕ)) → AllByRecursion (StartsFrom i) (inner i ps)
inner-starts i [] = tt
inner-starts i (p ∷ ps) = (omega arith, inner-starts i ps)

before-later : (i : ℕ) (p q : List ℕ) → StartsFrom (i + 1) q → is_before (i ∷ p) q ≡ true
before-later i p [] h = absurd h
before-later i p (x ∷ xs) h = by (nat_lt i x) (grind (arith, common_steps, h))
  where
    by : (l : Bool) → l ≡ true → (l || ((i == x) && is_before p xs)) ≡ true
    by true e = refl
    by false e = cc

before-all : (i : ℕ) (p : List ℕ) (qs : List (List ℕ)) → AllByRecursion (StartsFrom (i + 1)) qs → IsBeforeAll (i ∷ p) qs
before-all i p [] h = tt
before-all i p (q ∷ qs) h = (before-later i p q h.0, before-all i p qs h.1)

before-both : (p : List ℕ) (qs rs : List (List ℕ)) → IsBeforeAll p qs → IsBeforeAll p rs → IsBeforeAll p (qs ++ rs)
before-both p [] rs h k = k
before-both p (q ∷ qs) rs h k = (h.0, before-both p qs rs h.1 k)

order-both : (i : ℕ) (ps qs : List (List ℕ)) → AreInOrder (inner i ps) → AllByRecursion (StartsFrom (i + 1)) qs → AreInOrder qs → AreInOrder (inner i ps ++ qs)
order-both i [] qs h k o = o
order-both i (p ∷ ps) qs h k o = (before-both (i ∷ p) (inner i ps) qs h.0 (before-all i p qs k), order-both i ps qs h.1 k o)

-- ---- children

-- the branches of each are in order
abbrev pub AreFamiliesInOrder : List Family → Type 0
AreFamiliesInOrder ks = AllByRecursion (λ k. AreInOrder (map (λ b. b.place) (branches_of k))) ks

places-below : (i : ℕ) (k : Family) (ks : List Family) → places (below_of i (k ∷ ks)) ≡ inner i ([] ∷ places k.below) ++ places (below_of (i + 1) ks)
places-below i k ks = ap (λ (ps : List (List ℕ)). (i ∷ []) ∷ ps)
    (map-append (λ (s : Spot). s.number ∷ s.deeper) (map (pushed i) k.below) (below_of (i + 1) ks)
    ∙ ap (λ (ps : List (List ℕ)). ps ++ places (below_of (i + 1) ks)) (places-pushed i k.below))

below-starts : (i : ℕ) (ks : List Family) → AllByRecursion (StartsFrom i) (places (below_of i ks))
below-starts i [] = tt
below-starts i (k ∷ ks) = subst (AllByRecursion (StartsFrom i)) (sym (places-below i k ks))
    (all-both i (inner i ([] ∷ places k.below)) (places (below_of (i + 1) ks)) (inner-starts i ([] ∷ places k.below)) (all-more i (places (below_of (i + 1) ks)) (below-starts (i + 1) ks)))

own-order : (k : Family) → AreInOrder (map (λ b. b.place) (branches_of k)) → AreInOrder ([] ∷ places k.below)
own-order k h = subst (λ (ps : List (List ℕ)). AreInOrder ([] ∷ ps)) (places-branches k.below) h

below-order : (i : ℕ) (ks : List Family) → AreFamiliesInOrder ks → AreInOrder (places (below_of i ks))
below-order i [] h = tt
below-order i (k ∷ ks) h = subst AreInOrder (sym (places-below i k ks))
    (order-both i ([] ∷ places k.below) (places (below_of (i + 1) ks)) (inner-order i ([] ∷ places k.below) (own-order k h.0)) (below-starts (i + 1) ks) (below-order (i + 1) ks h.1))

first-of-all : (ss : List Spot) → IsBeforeAll [] (places ss)
first-of-all [] = tt
first-of-all (s ∷ ss) = (refl, first-of-all ss)

pub in-order : (f : Family) (ks : List Family) → below_of 0 ks ≡ f.below → AreFamiliesInOrder ks → AreInOrder (map (λ b. b.place) (branches_of f))
in-order f ks e h = subst (λ (ps : List (List ℕ)). AreInOrder ([] ∷ ps)) (sym (places-branches f.below))
    (first-of-all f.below, subst (λ (ss : List Spot). AreInOrder (places ss)) e (below-order 0 ks h))

-- ---- the loop over them

all-last : (ks : List Family) (k : Family) → AreFamiliesInOrder ks → AreInOrder (map (λ b. b.place) (branches_of k)) → AreFamiliesInOrder (ks ++ k ∷ [])
all-last [] k h o = (o, tt)
all-last (x ∷ xs) k h o = (h.0, all-last xs k h.1 o)

pub one-more : (ks : List Family) (i : ℕ) (k : Family) → k ≡ get_or ks i k → i < length ks → AreInOrder (map (λ b. b.place) (branches_of k)) → AreFamiliesInOrder (take i ks) → AreFamiliesInOrder (take (i + 1) ks)
one-more ks i k e l o h = subst AreFamiliesInOrder (sym (take_more ks i k l ∙ ap (λ (x : Family). take i ks ++ x ∷ []) (sym e))) (all-last (take i ks) k h o)

pub all-of-them : (ks : List Family) (n : ℕ) → length ks ≤ n → AreFamiliesInOrder (take n ks) → AreFamiliesInOrder ks
all-of-them ks n l h = subst AreFamiliesInOrder (take_all n ks l) h
