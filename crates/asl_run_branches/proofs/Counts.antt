-- Counts over children, one of which changes.
use Rattle.std.proofs.Common.{ℕ, suc, zero, ◌≡◌, ◌+◌, ◌-◌, ◌<◌, ◌≤◌, Bool, true, false, not, List, [], ◌∷◌, ◌++◌, sym, ◌∙◌, ap, subst, arith, length, set, get_or, take, drop, Some}
use Rattle.std.proofs.lemmas.List.{take-append-drop, take-take, drop-take}
use Rattle.std.specs.Prelude.{slice_get}
use Rattle.asl_step.specs.Records.{is_failed, is_done}
use Rattle.asl_run_branches.specs.Trees.{Family, count_undone, count_failed, one_if, AreCounted}

pub undone-set : (ks : List Family) (j : ℕ) (k new : Family) → slice_get ks j ≡ Some k → count_undone (set ks j new) + one_if (not (is_done k.head.current)) ≡ count_undone ks + one_if (not (is_done new.head.current))
undone-set [] j k new e = (cc)
undone-set (c ∷ cs) zero k new e = let s : c ≡ k = cc in rw s (omega arith)
undone-set (c ∷ cs) (suc j) k new e = let r = undone-set cs j k new e in omega (arith, r)

pub failed-set : (ks : List Family) (j : ℕ) (k new : Family) → slice_get ks j ≡ Some k → count_failed (set ks j new) + one_if (is_failed k.head.current) ≡ count_failed ks + one_if (is_failed new.head.current)
failed-set [] j k new e = (cc)
failed-set (c ∷ cs) zero k new e = let s : c ≡ k = cc in rw s (omega arith)
failed-set (c ∷ cs) (suc j) k new e = let r = failed-set cs j k new e in omega (arith, r)

pub one-most : (b : Bool) → one_if b ≤ 1
one-most true = omega arith
one-most false = omega arith

pub undone-few : (ks : List Family) → count_undone ks ≤ length ks
undone-few [] = omega arith
undone-few (k ∷ ks) = omega (arith, undone-few ks, one-most (not (is_done k.head.current)))

pub failed-few : (ks : List Family) → count_failed ks ≤ length ks
failed-few [] = omega arith
failed-few (k ∷ ks) = omega (arith, failed-few ks, one-most (is_failed k.head.current))

pub undone-one : (ks : List Family) (j : ℕ) (k : Family) → slice_get ks j ≡ Some k → one_if (not (is_done k.head.current)) ≤ count_undone ks
undone-one [] j k e = (cc)
undone-one (c ∷ cs) zero k e = let s : c ≡ k = cc in rw s (omega arith)
undone-one (c ∷ cs) (suc j) k e = let r = undone-one cs j k e in omega (arith, r)

pub failed-one : (ks : List Family) (j : ℕ) (k : Family) → slice_get ks j ≡ Some k → one_if (is_failed k.head.current) ≤ count_failed ks
failed-one [] j k e = (cc)
failed-one (c ∷ cs) zero k e = let s : c ≡ k = cc in rw s (omega arith)
failed-one (c ∷ cs) (suc j) k e = let r = failed-one cs j k e in omega (arith, r)

pub get-at : (ks : List Family) (j : ℕ) (k : Family) → k ≡ get_or ks j k → j < length ks → slice_get ks j ≡ Some k
get-at [] j k e l = absurd (omega arith)
get-at (x ∷ xs) zero k e l = ap Some (sym e)
get-at (x ∷ xs) (suc j) k e l = get-at xs j k e (omega arith)

-- the counts after one child changed
pub counted-set : (ks : List Family) (j : ℕ) (k new : Family) (undone failed undone2 failed2 : ℕ) (wasd isd wasf isf : Bool) → AreCounted undone failed ks → slice_get ks j ≡ Some k → wasd ≡ is_done k.head.current → isd ≡ is_done new.head.current → wasf ≡ is_failed k.head.current → isf ≡ is_failed new.head.current → undone2 + one_if (not wasd) ≡ undone + one_if (not isd) → failed2 + one_if wasf ≡ failed + one_if isf → AreCounted undone2 failed2 (set ks j new)
counted-set ks j k new undone failed undone2 failed2 wasd isd wasf isf a g wd id wf if_ u f =
    let us = undone-set ks j k new g in
    let fs = failed-set ks j k new g in
    let u1 : undone2 + one_if (not (is_done k.head.current)) ≡ undone + one_if (not (is_done new.head.current)) = rw (← wd, ← id) u in
    let f1 : failed2 + one_if (is_failed k.head.current) ≡ failed + one_if (is_failed new.head.current) = rw (← wf, ← if_) f in
    record {
      undone_is = omega (arith, us, u1, a.undone_is);
      failed_is = omega (arith, fs, f1, a.failed_is);
    }

-- one that isn't done, or has failed, is counted
pub undone-here : (ks : List Family) (j : ℕ) (k : Family) → slice_get ks j ≡ Some k → is_done k.head.current ≡ false → 1 ≤ count_undone (drop j ks)
undone-here [] j k g e = (cc)
undone-here (c ∷ cs) zero k g e = let s : c ≡ k = cc in rw (s, e) (omega arith)
undone-here (c ∷ cs) (suc j) k g e = undone-here cs j k g e

pub failed-here : (ks : List Family) (j : ℕ) (k : Family) → slice_get ks j ≡ Some k → is_failed k.head.current ≡ true → 1 ≤ count_failed (drop j ks)
failed-here [] j k g e = (cc)
failed-here (c ∷ cs) zero k g e = let s : c ≡ k = cc in rw (s, e) (omega arith)
failed-here (c ∷ cs) (suc j) k g e = failed-here cs j k g e

-- one more child is counted
pub undone-next : (ks : List Family) (i : ℕ) (k : Family) → slice_get ks i ≡ Some k → count_undone (take (suc i) ks) ≡ count_undone (take i ks) + one_if (not (is_done k.head.current))
undone-next [] i k g = (cc)
undone-next (c ∷ cs) zero k g = let s : c ≡ k = cc in rw s (omega arith)
undone-next (c ∷ cs) (suc i) k g = let r = undone-next cs i k g in omega (arith, r)

pub undone-more : (ks : List Family) (i : ℕ) (k : Family) → slice_get ks i ≡ Some k → count_undone (take (i + 1) ks) ≡ count_undone (take i ks) + one_if (not (is_done k.head.current))
undone-more ks i k g = let s : i + 1 ≡ suc i = omega arith in rw s (undone-next ks i k g)

-- the children of two lists
pub undone-append : (xs ys : List Family) → count_undone (xs ++ ys) ≡ count_undone xs + count_undone ys
undone-append [] ys = omega arith
undone-append (x ∷ xs) ys = let r = undone-append xs ys in omega (arith, r)

-- the first children in two parts
pub undone-from : (ks : List Family) (a b : ℕ) → a ≤ b → count_undone (take b ks) ≡ count_undone (take a ks) + count_undone (take (b - a) (drop a ks))
undone-from ks a b l =
    let t : take a (take b ks) ≡ take a ks = take-take a b ks l in
    let n : a + (b - a) ≡ b = omega arith in
    let d : drop a (take b ks) ≡ take (b - a) (drop a ks) = subst (λ z. drop a (take z ks) ≡ take (b - a) (drop a ks)) n (drop-take a (b - a) ks) in
    ap count_undone (sym (take-append-drop a (take b ks)))
    ∙ undone-append (take a (take b ks)) (drop a (take b ks))
    ∙ ap (λ xs. count_undone xs + count_undone (drop a (take b ks))) t
    ∙ ap (λ xs. count_undone (take a ks) + count_undone xs) d
