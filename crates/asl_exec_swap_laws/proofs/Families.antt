-- What branches directly under a place say of those under it.
use Rattle.std.proofs.Common.{ℕ, ◌≡◌, ◌==◌, ◌&&◌, ◌||◌, Bool, true, false, not, List, [], ◌∷◌, ◌++◌, refl, sym, ◌∙◌, ap, Some}
use Rattle.std.proofs.lemmas.Bool.{and_parts, and_from, both_ways, false_from_ne_true, eq-eqb}
use Rattle.std.specs.List.{list_any, list_all}
use Rattle.asl_history.specs.Places.{is_child, is_beside}
use Rattle.asl_step.specs.Records.{is_done, is_failed}
use Rattle.asl_step.specs.declared.record.Record.{Record}
use Rattle.asl_run_branches.specs.Branches.{Branch, same_place, record_at, children_at, is_stopped}
use Rattle.asl_run_branches.proofs.Linking.{same-eq}
use Rattle.asl_exec.specs.Exchanges.{IsOneEach}
use Rattle.asl_exec_swap_laws.proofs.Fewer.{AllAt, all-at}

pub or-left : (a b : Bool) → a ≡ true → (a || b) ≡ true
or-left true b h = refl
or-left false b h = absurd (both_ways false refl h)

pub or-right : (a b : Bool) → b ≡ true → (a || b) ≡ true
or-right true b h = refl
or-right false b h = h

-- ---- places

pub child-is : (q : List ℕ) (i : ℕ) → is_child q (q ++ i ∷ []) ≡ true
child-is [] i = refl
child-is (j ∷ q) i = and_from (j == j) (is_child q (q ++ i ∷ [])) (eq-eqb j j refl) (child-is q i)

-- another child is beside all that is at or under this one
other-beside : (q : List ℕ) (i : ℕ) (rest x : List ℕ) → is_child q x ≡ true → same_place (q ++ i ∷ []) x ≡ false → is_beside (q ++ i ∷ rest) x ≡ true
other-beside [] i rest [] c s = (cc)
other-beside [] i rest (y ∷ []) c s = by (i == y) refl s
  where
    by : (b : Bool) → (i == y) ≡ b → (b && true) ≡ false → not b ≡ true
    by true e h = absurd (both_ways true h refl)
    by false e h = refl
other-beside [] i rest (y ∷ z ∷ x) c s = (cc)
other-beside (j ∷ q) i rest [] c s = (cc)
other-beside (j ∷ []) i rest (y ∷ []) c s = absurd (both_ways false refl (and_parts (j == y) false c).1)
other-beside (j ∷ k ∷ q) i rest (y ∷ []) c s = absurd (both_ways false refl (and_parts (j == y) false c).1)
other-beside (j ∷ q) i rest (y ∷ z ∷ x) c s =
    let p = and_parts (j == y) (is_child q (z ∷ x)) c in
    and_from (j == y) (is_beside (q ++ i ∷ rest) (z ∷ x)) p.0 (other-beside q i rest (z ∷ x) p.1 (rw p.0 at s))

-- what is beside a place is beside all under it
beside-under : (x rest y : List ℕ) → is_beside x y ≡ true → is_beside (x ++ rest) y ≡ true
beside-under [] rest [] h = (cc)
beside-under [] rest (j ∷ y) h = (cc)
beside-under (i ∷ x) rest [] h = (cc)
beside-under (i ∷ x) rest (j ∷ []) h = h
beside-under (i ∷ x) rest (j ∷ k ∷ y) h =
    let p = and_parts (i == j) (is_beside x (k ∷ y)) h in
    and_from (i == j) (is_beside (x ++ rest) (k ∷ y)) p.0 (beside-under x rest (k ∷ y) p.1)

-- what is beside a child is beside its parent, or a child
beside-child : (x : List ℕ) (i : ℕ) (y : List ℕ) → is_beside (x ++ i ∷ []) y ≡ true → is_beside x y ≡ false → is_child x y ≡ true
beside-child [] i [] h k = (cc)
beside-child [] i (j ∷ []) h k = refl
beside-child [] i (j ∷ l ∷ []) h k = absurd (both_ways false refl (and_parts (i == j) false h).1)
beside-child [] i (j ∷ l ∷ m ∷ y) h k = absurd (both_ways false refl (and_parts (i == j) false h).1)
beside-child (a ∷ x) i [] h k = (cc)
beside-child (a ∷ x) i (j ∷ []) h k = absurd (both_ways (not (a == j)) k h)
beside-child (a ∷ x) i (j ∷ l ∷ y) h k =
    let p = and_parts (a == j) (is_beside (x ++ i ∷ []) (l ∷ y)) h in
    and_from (a == j) (is_child x (l ∷ y)) p.0 (beside-child x i (l ∷ y) p.1 (rw p.0 at k))

-- ---- branches

-- where all directly under a place are done, each is
pub child-done : (q : List ℕ) (i : ℕ) (r : Record) (bs : List Branch) → list_all is_done (children_at q bs) ≡ true → record_at (q ++ i ∷ []) bs ≡ Some r → is_done r ≡ true
child-done q i r [] all h = (cc)
child-done q i r (b ∷ bs) all h = by (same_place (q ++ i ∷ []) b.place) (is_child q b.place) refl refl (child-done q i r bs) all h
  where
    by : (s c : Bool) → same_place (q ++ i ∷ []) b.place ≡ s → is_child q b.place ≡ c → (list_all is_done (children_at q bs) ≡ true → record_at (q ++ i ∷ []) bs ≡ Some r → is_done r ≡ true) → list_all is_done (children_at q (b ∷ bs)) ≡ true → record_at (q ++ i ∷ []) (b ∷ bs) ≡ Some r → is_done r ≡ true
    by true true e f more all h =
        let x : Some b.current ≡ Some r = rw e at h in
        let y : b.current ≡ r = cc in
        let z : (is_done b.current && list_all is_done (children_at q bs)) ≡ true = rw f at all in
        ap is_done (sym y) ∙ (and_parts (is_done b.current) (list_all is_done (children_at q bs)) z).0
    by true false e f more all h = absurd (both_ways (is_child q b.place) f (rw (← same-eq (q ++ i ∷ []) b.place e) (child-is q i)))
    by false true e f more all h =
        let z : (is_done b.current && list_all is_done (children_at q bs)) ≡ true = rw f at all in
        more (and_parts (is_done b.current) (list_all is_done (children_at q bs)) z).1 (rw e at h)
    by false false e f more all h = more (rw f at all) (rw e at h)

-- a child that failed stops all at or under the others
failed-among : (q : List ℕ) (i : ℕ) (rest : List ℕ) (bs : List Branch) → AllAt (q ++ i ∷ []) (λ r. not (is_failed r)) bs → list_any is_failed (children_at q bs) ≡ true → is_stopped (q ++ i ∷ rest) bs ≡ true
failed-among q i rest [] all any = (cc)
failed-among q i rest (b ∷ bs) all any = by (is_child q b.place) (is_failed b.current) refl refl (failed-among q i rest bs all.1) any
  where
    here : is_child q b.place ≡ true → is_failed b.current ≡ true → is_beside (q ++ i ∷ rest) b.place ≡ true
    here c f = other-beside q i rest b.place c (false_from_ne_true (same_place (q ++ i ∷ []) b.place) (λ s. let x : not (is_failed b.current) ≡ true = all.0 s in let y : not true ≡ true = rw f at x in both_ways false refl y))

    by : (c f : Bool) → is_child q b.place ≡ c → is_failed b.current ≡ f → (list_any is_failed (children_at q bs) ≡ true → is_stopped (q ++ i ∷ rest) bs ≡ true) → list_any is_failed (children_at q (b ∷ bs)) ≡ true → is_stopped (q ++ i ∷ rest) (b ∷ bs) ≡ true
    by true true e f more any = or-left (is_failed b.current && is_beside (q ++ i ∷ rest) b.place) (is_stopped (q ++ i ∷ rest) bs) (and_from (is_failed b.current) (is_beside (q ++ i ∷ rest) b.place) f (here e f))
    by true false e f more any = or-right (is_failed b.current && is_beside (q ++ i ∷ rest) b.place) (is_stopped (q ++ i ∷ rest) bs) (more (rw (e, f) at any))
    by false f e g more any = or-right (is_failed b.current && is_beside (q ++ i ∷ rest) b.place) (is_stopped (q ++ i ∷ rest) bs) (more (rw e at any))

pub failed-stops : (q : List ℕ) (i : ℕ) (rest : List ℕ) (r : Record) (bs : List Branch) → IsOneEach bs → record_at (q ++ i ∷ []) bs ≡ Some r → is_failed r ≡ false → list_any is_failed (children_at q bs) ≡ true → is_stopped (q ++ i ∷ rest) bs ≡ true
failed-stops q i rest r bs one h f any = failed-among q i rest bs (all-at (q ++ i ∷ []) (λ r. not (is_failed r)) r bs one h (rw f refl)) any

-- where a place is stopped, all under it are
pub stopped-under : (x rest : List ℕ) (bs : List Branch) → is_stopped x bs ≡ true → is_stopped (x ++ rest) bs ≡ true
stopped-under x rest [] h = (cc)
stopped-under x rest (b ∷ bs) h = by (is_failed b.current) (is_beside x b.place) refl refl (stopped-under x rest bs) h
  where
    by : (f s : Bool) → is_failed b.current ≡ f → is_beside x b.place ≡ s → (is_stopped x bs ≡ true → is_stopped (x ++ rest) bs ≡ true) → is_stopped x (b ∷ bs) ≡ true → is_stopped (x ++ rest) (b ∷ bs) ≡ true
    by true true e g more h = or-left (is_failed b.current && is_beside (x ++ rest) b.place) (is_stopped (x ++ rest) bs) (and_from (is_failed b.current) (is_beside (x ++ rest) b.place) e (beside-under x rest b.place g))
    by true false e g more h = or-right (is_failed b.current && is_beside (x ++ rest) b.place) (is_stopped (x ++ rest) bs) (more (rw (e, g) at h))
    by false s e g more h = or-right (is_failed b.current && is_beside (x ++ rest) b.place) (is_stopped (x ++ rest) bs) (more (rw e at h))

-- a child is stopped by what stops its parent, or by another child
pub stopped-by-child : (x : List ℕ) (i : ℕ) (bs : List Branch) → is_stopped (x ++ i ∷ []) bs ≡ true → is_stopped x bs ≡ false → list_any is_failed (children_at x bs) ≡ true
stopped-by-child x i [] h k = (cc)
stopped-by-child x i (b ∷ bs) h k = by (is_failed b.current) (is_beside x b.place) (is_beside (x ++ i ∷ []) b.place) (is_child x b.place) refl refl refl refl (stopped-by-child x i bs) h k
  where
    by : (f s t c : Bool) → is_failed b.current ≡ f → is_beside x b.place ≡ s → is_beside (x ++ i ∷ []) b.place ≡ t → is_child x b.place ≡ c → (is_stopped (x ++ i ∷ []) bs ≡ true → is_stopped x bs ≡ false → list_any is_failed (children_at x bs) ≡ true) → is_stopped (x ++ i ∷ []) (b ∷ bs) ≡ true → is_stopped x (b ∷ bs) ≡ false → list_any is_failed (children_at x (b ∷ bs)) ≡ true
    by true true t c e g m n more h k = let z : true ≡ false = rw (e, g) at k in absurd (both_ways true z refl)
    by true false true true e g m n more h k = rw (n, e) refl
    by true false true false e g m n more h k = absurd (both_ways (is_child x b.place) n (beside-child x i b.place m g))
    by true false false true e g m n more h k = rw (n, e) refl
    by true false false false e g m n more h k = rw n (more (rw (e, m) at h) (rw (e, g) at k))
    by false s t true e g m n more h k = rw (n, e) (more (rw e at h) (rw e at k))
    by false s t false e g m n more h k = rw n (more (rw e at h) (rw e at k))
