-- Branches by their numbers.
use Rattle.std.proofs.Common.{ℕ, suc, zero, ◌≡◌, ◌<◌, ◌≤◌, ◌+◌, ◌∙◌, ◌++◌, Bool, true, false, List, [], ◌∷◌, refl, sym, ap, subst, arith, map, length, get_or, take, drop, Option, Some, None}
use Rattle.std.specs.Prelude.{option_map, slice_get, slice_index}
use Rattle.std.proofs.lemmas.List.{append-nil, append_assoc, get_or_append_left, length-append, length-map, map-append, take_all, take_more}
use Rattle.std.proofs.lemmas.Option.{get_or_from_slice_get, slice_get-get_or, slice_get-map, slice_get_within}
use Rattle.asl_step.specs.declared.record.Record.{Record}
use Rattle.asl_run_branches.specs.Branches.{Branch, record_at}
use Rattle.asl_run_branches.specs.Orders.{AreInOrder}
use Rattle.asl_run_state.specs.World.{World}
use Rattle.asl_branch_numbers.specs.Numbers.{branch_at, branch_in, AreNumbers, IsBehind, IsKept, IsMore}
use Rattle.asl_branch_numbers.specs.declared.branches.Numbered.{Numbered}
use Rattle.asl_branch_numbers.proofs.AtPlaces.{places, branch-there}

-- ---- each number

numbers-at : (ts : List Branch) (ns : List ℕ) (bs : List Branch) (i : ℕ) → AreNumbers ts ns bs → i < length ns → slice_get ts (slice_index ns i) ≡ slice_get bs i
numbers-at ts [] bs i h l = absurd (omega arith)
numbers-at ts (n ∷ ns) [] i h l = (cc)
numbers-at ts (n ∷ ns) (b ∷ bs) zero h l = ap (λ (xs : List (Option Branch)). get_or xs 0 None) h
numbers-at ts (n ∷ ns) (b ∷ bs) (suc i) h l = numbers-at ts ns bs i (ap (λ (xs : List (Option Branch)). drop 1 xs) h) (omega arith)

pub numbers-more : (ts : List Branch) (ns : List ℕ) (bs : List Branch) (i n : ℕ) (b : Branch) → slice_get bs i ≡ Some b → slice_get ts n ≡ Some b → AreNumbers ts ns (take i bs) → AreNumbers ts (ns ++ n ∷ []) (take (i + 1) bs)
numbers-more ts ns bs i n b at is h =
    map-append (slice_get ts) ns (n ∷ [])
    ∙ (λ j. h j ++ is j ∷ [])
    ∙ sym (map-append Some (take i bs) (b ∷ []))
    ∙ sym (ap (map Some) (take_more bs i b (slice_get_within bs i b at) ∙ ap (λ (x : Branch). take i bs ++ x ∷ []) (get_or_from_slice_get bs i b b at)))

pub numbers-all : (ts : List Branch) (ns : List ℕ) (bs : List Branch) (i : ℕ) → length bs ≤ i → AreNumbers ts ns (take i bs) → AreNumbers ts ns bs
numbers-all ts ns bs i l h = subst (AreNumbers ts ns) (take_all i bs l) h

-- ---- numbers that are known

-- the branch of a number that stands among those before a step is at its place behind it, too
pub kept-is : (ts : List Branch) (ns : List ℕ) (w v : World) (p q : List ℕ) (i : ℕ) → AreInOrder (places w.branches) → IsKept ts ns p q i → (0 < length ns → AreNumbers ts ns w.branches) → IsBehind p w v → slice_get ts (slice_index ns i) ≡ branch_at q v.branches
kept-is ts ns w v p q i o k f b = by (slice_get w.branches i) refl
  where
    there : i < length ns
    there = k.there

    same : slice_get ts (slice_index ns i) ≡ slice_get w.branches i
    same = numbers-at ts ns w.branches i (f (omega (arith, there))) there

    by : (x : Option Branch) → slice_get w.branches i ≡ x → slice_get ts (slice_index ns i) ≡ branch_at q v.branches
    by None e = let z : None ≡ Some q = sym (ap (option_map (λ (b : Branch). b.place)) (same ∙ e)) ∙ k.at in absurd (cc)
    by (Some c) e =
        let some : Some c.place ≡ Some q = sym (ap (option_map (λ (b : Branch). b.place)) (same ∙ e)) ∙ k.at in
        let at : c.place ≡ q = cc in
        same ∙ e ∙ sym (branch-there w.branches i c o e)
        ∙ ap (λ (z : List ℕ). branch_at z w.branches) at
        ∙ sym (ap (option_map (λ (r : Record). record { place = q; current = r })) (b.apart q k.apart))

-- ---- more numbers

slice-more : (ts more : List Branch) (n : ℕ) (b : Branch) → slice_get ts n ≡ Some b → slice_get (ts ++ more) n ≡ Some b
slice-more ts more n b h =
    let l = slice_get_within ts n b h in
    slice_get-get_or (ts ++ more) n b (omega (arith, l, length-append ts more))
    ∙ ap Some (get_or_append_left ts more b n l ∙ get_or_from_slice_get ts n b b h)

numbers-append : (ts more : List Branch) (ns : List ℕ) (bs : List Branch) → AreNumbers ts ns bs → AreNumbers (ts ++ more) ns bs
numbers-append ts more [] [] h = refl
numbers-append ts more [] (b ∷ bs) h = (cc)
numbers-append ts more (n ∷ ns) [] h = (cc)
numbers-append ts more (n ∷ ns) (b ∷ bs) h =
    let first = slice-more ts more n b (ap (λ (xs : List (Option Branch)). get_or xs 0 None) h) in
    let rest = numbers-append ts more ns bs (ap (λ (xs : List (Option Branch)). drop 1 xs) h) in
    λ i. first i ∷ rest i

-- numbers stay those of their branches
pub numbers-later : (ts us : List Branch) (ns : List ℕ) (bs : List Branch) → IsMore ts us → AreNumbers ts ns bs → AreNumbers us ns bs
numbers-later ts us ns bs m h = subst (λ (xs : List Branch). AreNumbers xs ns bs) (sym m.is) (numbers-append ts m.more ns bs h)

pub more-same : (ts : List Branch) → IsMore ts ts
more-same ts = record { more = []; is = sym (append-nil ts) }

pub more-then : (ts us vs : List Branch) → IsMore ts us → IsMore us vs → IsMore ts vs
more-then ts us vs a b = record {
  more = a.more ++ b.more;
  is = b.is ∙ ap (λ (z : List Branch). z ++ b.more) a.is ∙ append_assoc ts a.more b.more;
}

-- ---- the same numbers

some-one : (bs cs : List Branch) → map Some bs ≡ map Some cs → bs ≡ cs
some-one [] [] h = refl
some-one [] (c ∷ cs) h = (cc)
some-one (b ∷ bs) [] h = (cc)
some-one (b ∷ bs) (c ∷ cs) h =
    let head : Some b ≡ Some c = ap (λ (xs : List (Option Branch)). get_or xs 0 None) h in
    let first : b ≡ c = cc in
    let rest = some-one bs cs (ap (λ (xs : List (Option Branch)). drop 1 xs) h) in
    λ i. first i ∷ rest i

-- are those of the same branches
pub same-branches : (ts : List Branch) (ns : List ℕ) (bs cs : List Branch) → AreNumbers ts ns bs → AreNumbers ts ns cs → bs ≡ cs
same-branches ts ns bs cs h k = some-one bs cs (sym h ∙ k)

-- ---- what a table has

-- the branch of a number is at the place of what stands there
pub at-number : (ns : List Numbered) (k : ℕ) (n : Numbered) (q : List ℕ) → k < length ns → n ≡ get_or ns k n → n.place ≡ q → option_map (λ (b : Branch). b.place) (slice_get (map branch_in ns) k) ≡ Some q
at-number ns k n q l h e =
    ap (option_map (λ (b : Branch). b.place)) (slice_get-map branch_in ns k ∙ ap (option_map branch_in) (slice_get-get_or ns k n l ∙ ap Some (sym h))) ∙ ap Some e
