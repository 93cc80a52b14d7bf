-- A branch that a failure stops: whether it took a quiet step before makes no difference to what follows.
use Rattle.std.proofs.Common.{ℕ, ◌≡◌, ◌⊎◌, inl, inr, ◌+◌, ◌==◌, ◌&&◌, ◌||◌, ◌++◌, Bool, true, false, not, List, [], ◌∷◌, refl, sym, ◌∙◌, ap, subst, arith, append_assoc, map, Some, None, Option}
use Rattle.std.specs.Prelude.{is_some}
use Rattle.std.specs.List.{list_any}
use Rattle.std.proofs.lemmas.Bool.{and_parts, and_from, both_ways, eqb-true, eq-eqb, false_from_ne_true}
use Rattle.asl_json.specs.private.SameLaws.{bytes_refl}
use Rattle.asl_history.specs.Places.{is_prefix, is_beside}
use Rattle.asl_step.specs.Records.{is_failed}
use Rattle.asl_step.specs.declared.effect.Children.{Children}
use Rattle.asl_step.specs.declared.effect.Effect.{Effect}
use Rattle.asl_step.specs.declared.record.Record.{Record}
use Rattle.asl_run_branches.specs.Branches.{Branch, same_place, record_at, children_at, is_stopped, is_elder, undone_in, branch_after, branches_after}
use Rattle.asl_run_branches.specs.Turns.{is_full, is_crowded, limit_of}
use Rattle.asl_run_state.specs.World.{World, is_over, counts_after, count_of, world_with}
use Rattle.asl_run_state.specs.Refusals.{refusal_by}
use Rattle.asl_run_input.specs.declared.setup.Setup.{Setup}
use Rattle.asl_exec.specs.Exchanges.{IsOneEach}
use Rattle.asl_exec.specs.Steps.{number_in, limits_in}
use Rattle.asl_exec.proofs.Going.{record-after, does, next, slots_at, IsReady}
use Rattle.asl_exec_swap_laws.proofs.Apart.{IsApart, prefix-append, MissesUnder}
use Rattle.asl_exec_swap_laws.proofs.Leaving.{record-stays, children-stay, forker-stays, stays, passes}
use Rattle.asl_exec_swap_laws.proofs.Fewer.{AllAt, all-at, not-stopped}
use Rattle.asl_exec_swap_laws.proofs.Families.{or-left, or-right, failed-stops, stopped-under, stopped-by-child}
use Rattle.asl_exec_swap_laws.proofs.Changing.{ready-later}
use Rattle.asl_exec_swap_laws.proofs.OneEach.{one-after}
use Rattle.asl_exec_swap_laws.proofs.Rooted.{is_joining, IsRooted, rooted-above, below}
use Rattle.asl_exec_swap_laws.proofs.Rooting.{one-place}
use Rattle.asl_exec_swap_laws.proofs.Pending.{IsPending, ahead, after, none-over, unfinished-by, rooted-next}
use Rattle.asl_exec_swap_laws.proofs.Inline.{IsGoing, Someone, stopper, root-free, the-record, joining-free, joining-goes, joining-ready, going-fails, not-busy}
use Rattle.asl_explore.proofs.Steady.{AreLike, asked, held-less, like-less, like-back}
use Rattle.asl_explore.proofs.Asking.{asks_at}
use Rattle.asl_explore.proofs.Carrying.{with_counts, go, after_bare, ArePrompt, asks, carried}
use Rattle.asl_explore.proofs.Calm.{KeepsOn, IsHeldFor, same-ahead, commutes, still-pending, above-asked, above-same, like-next, held-next}
use Rattle.asl_explore.proofs.Orderly.{prompt-ready, ready-prompt, go-is, asks-is}

-- ---- places

-- what is strictly under a place is beside another one only if that is under it too
beside-deeper : (p q : List ℕ) (i : ℕ) (rest : List ℕ) → is_beside q (p ++ i ∷ rest) ≡ true → is_prefix p q ≡ true
beside-deeper [] q i rest h = refl
beside-deeper (x ∷ []) [] i rest h = h
beside-deeper (x ∷ z ∷ p) [] i rest h = h
beside-deeper (x ∷ []) (y ∷ q) i rest h = and_from _ _ (eq-eqb x y (sym (eqb-true y x (and_parts (y == x) (is_beside q (i ∷ rest)) h).0))) refl
beside-deeper (x ∷ z ∷ p) (y ∷ q) i rest h =
    let a = and_parts (y == x) (is_beside q (z ∷ (p ++ i ∷ rest))) h in
    and_from _ _ (eq-eqb x y (sym (eqb-true y x a.0))) (beside-deeper (z ∷ p) q i rest a.1)

beside-itself : (p : List ℕ) (i : ℕ) (rest : List ℕ) → is_beside p (p ++ i ∷ rest) ≡ true → ⊥
beside-itself [] i rest h = (cc)
beside-itself (x ∷ []) i rest h = let a = and_parts (x == x) (is_beside [] (i ∷ rest)) h in both_ways false refl a.1
beside-itself (x ∷ z ∷ p) i rest h = beside-itself (z ∷ p) i rest (and_parts (x == x) (is_beside (z ∷ p) (z ∷ (p ++ i ∷ rest))) h).1

elder-deeper : (p q : List ℕ) (i : ℕ) (rest : List ℕ) → is_elder q (p ++ i ∷ rest) ≡ true → is_prefix p q ≡ true
elder-deeper [] q i rest h = refl
elder-deeper (x ∷ p) [] i rest h = h
elder-deeper (x ∷ []) (y ∷ []) i rest h = (cc)
elder-deeper (x ∷ z ∷ p) (y ∷ []) i rest h = (cc)
elder-deeper (x ∷ p) (y ∷ w ∷ q) i rest h =
    let a = and_parts (y == x) (is_elder (w ∷ q) (p ++ i ∷ rest)) h in
    and_from _ _ (eq-eqb x y (sym (eqb-true y x a.0))) (elder-deeper p (w ∷ q) i rest a.1)

-- what is beside a sibling is beside the other one, or is that one
beside-elder : (q p y : List ℕ) → is_elder q p ≡ true → is_beside p y ≡ true → same_place q y ≡ false → is_beside q y ≡ true
beside-elder [] p y e h s = (cc)
beside-elder (x ∷ []) [] y e h s = (cc)
beside-elder (x ∷ w ∷ q) [] y e h s = (cc)
beside-elder (x ∷ []) (a ∷ []) [] e h s = (cc)
beside-elder (x ∷ []) (a ∷ []) (b ∷ []) e h s = by (x == b) refl s
  where
    by : (c : Bool) → (x == b) ≡ c → (c && true) ≡ false → not c ≡ true
    by true f g = absurd (both_ways true g refl)
    by false f g = refl
beside-elder (x ∷ []) (a ∷ []) (b ∷ c ∷ y) e h s = absurd (both_ways false refl (and_parts (a == b) (is_beside [] (c ∷ y)) h).1)
beside-elder (x ∷ []) (a ∷ z ∷ p) y e h s = (cc)
beside-elder (x ∷ w ∷ q) (a ∷ p) [] e h s = (cc)
beside-elder (x ∷ w ∷ q) (a ∷ p) (b ∷ []) e h s =
    let same : x ≡ a = eqb-true x a (and_parts (x == a) (is_elder (w ∷ q) p) e).0 in
    top p same h
  where
    top : (p : List ℕ) → x ≡ a → is_beside (a ∷ p) (b ∷ []) ≡ true → not (x == b) ≡ true
    top p same h = subst (λ (z : ℕ). not (z == b) ≡ true) (sym same) h
beside-elder (x ∷ w ∷ q) (a ∷ p) (b ∷ c ∷ y) e h s =
    let f = and_parts (x == a) (is_elder (w ∷ q) p) e in
    let g = and_parts (a == b) (is_beside p (c ∷ y)) h in
    let xb : (x == b) ≡ true = eq-eqb x b (eqb-true x a f.0 ∙ eqb-true a b g.0) in
    and_from _ _ xb (beside-elder (w ∷ q) p (c ∷ y) f.1 g.1 (rw xb at s))

-- a place at or under another one is it, or strictly under it
at-or-under : (p x : List ℕ) → is_prefix p x ≡ true → (p ≡ x) ⊎ ((i : ℕ) × ((rest : List ℕ) × (x ≡ p ++ i ∷ rest)))
at-or-under p x a = by (is_prefix x p) refl
  where
    by : (b : Bool) → is_prefix x p ≡ b → (p ≡ x) ⊎ ((i : ℕ) × ((rest : List ℕ) × (x ≡ p ++ i ∷ rest)))
    by true e = inl (one-place p x a e)
    by false e = inr (below p x a e)

-- ---- what stops a place goes on stopping it

any-after : (f : Branch → Bool) (xs ys : List Branch) → list_any f ys ≡ true → list_any f (xs ++ ys) ≡ true
any-after f [] ys h = h
any-after f (x ∷ xs) ys h = or-right (f x) (list_any f (xs ++ ys)) (any-after f xs ys h)

abbrev not_failed : Record → Bool
not_failed r = not (is_failed r)

module _ (p q : List ℕ) (r : Record) (c : Children) (misses : (i : ℕ) (rest : List ℕ) → is_beside q (p ++ i ∷ rest) ≡ true → ⊥) where
  abbrev stops : Branch → Bool
  stops b = is_failed b.current && is_beside q b.place

  -- no branch at or under the place at which something happens does
  harmless : (b : Branch) → (same_place p b.place ≡ true → not_failed b.current ≡ true) → is_prefix p b.place ≡ true → stops b ≡ true → ⊥
  harmless b o a h = by (at-or-under p b.place a)
    where
      parts : (is_failed b.current ≡ true) × (is_beside q b.place ≡ true)
      parts = and_parts (is_failed b.current) (is_beside q b.place) h

      by : (p ≡ b.place) ⊎ ((i : ℕ) × ((rest : List ℕ) × (b.place ≡ p ++ i ∷ rest))) → ⊥
      by (inl e) =
          let s : same_place p b.place ≡ true = subst (λ (z : List ℕ). same_place p z ≡ true) e (bytes_refl p) in
          let x : not (is_failed b.current) ≡ true = o s in
          let y : not true ≡ true = rw parts.0 at x in
          both_ways false refl y
      by (inr x) = misses x.0 x.1.0 (subst (λ (z : List ℕ). is_beside q z ≡ true) x.1.1 parts.1)

  pub stopped-stays : (bs : List Branch) → AllAt p not_failed bs → is_stopped q bs ≡ true → is_stopped q (branches_after p r c bs) ≡ true
  stopped-stays [] all h = (cc)
  stopped-stays (b ∷ bs) all h = by (is_prefix p b.place) (stops b) refl refl (stopped-stays bs all.1) h
    where
      by : (u f : Bool) → is_prefix p b.place ≡ u → stops b ≡ f → (is_stopped q bs ≡ true → is_stopped q (branches_after p r c bs) ≡ true) → (stops b || is_stopped q bs) ≡ true → list_any stops (branch_after p r c b ++ branches_after p r c bs) ≡ true
      by true true e g more h = absurd (harmless b all.0 e g)
      by true false e g more h = any-after stops (branch_after p r c b) (branches_after p r c bs) (more (rw g at h))
      by false true e g more h = rw (stays p r c b e) (or-left (stops b) (is_stopped q (branches_after p r c bs)) g)
      by false false e g more h = any-after stops (branch_after p r c b) (branches_after p r c bs) (more (rw g at h))

-- a sibling of a stopped place is stopped too, unless it has failed itself
elder-stopped : (q p : List ℕ) (bs : List Branch) → is_elder q p ≡ true → AllAt q not_failed bs → is_stopped p bs ≡ true → is_stopped q bs ≡ true
elder-stopped q p [] e all h = (cc)
elder-stopped q p (b ∷ bs) e all h = by (is_failed b.current) (is_beside p b.place) refl refl (elder-stopped q p bs e all.1) h
  where
    here : is_failed b.current ≡ true → is_beside p b.place ≡ true → is_beside q b.place ≡ true
    here f s = beside-elder q p b.place e s (false_from_ne_true (same_place q b.place) (λ t. let x : not (is_failed b.current) ≡ true = all.0 t in let y : not true ≡ true = rw f at x in both_ways false refl y))

    by : (f s : Bool) → is_failed b.current ≡ f → is_beside p b.place ≡ s → (is_stopped p bs ≡ true → is_stopped q bs ≡ true) → is_stopped p (b ∷ bs) ≡ true → is_stopped q (b ∷ bs) ≡ true
    by true true f s more h = or-left (is_failed b.current && is_beside q b.place) (is_stopped q bs) (and_from _ _ f (here f s))
    by true false f s more h = or-right (is_failed b.current && is_beside q b.place) (is_stopped q bs) (more (rw (f, s) at h))
    by false s f g more h = or-right (is_failed b.current && is_beside q b.place) (is_stopped q bs) (more (rw f at h))

elder-misses-under : (p q : List ℕ) → is_prefix p q ≡ false → is_elder q p ≡ false → MissesUnder p (is_elder q)
elder-misses-under p q a e x u = by (at-or-under p x u)
  where
    by : (p ≡ x) ⊎ ((i : ℕ) × ((rest : List ℕ) × (x ≡ p ++ i ∷ rest))) → is_elder q x ≡ false
    by (inl same) = subst (λ (z : List ℕ). is_elder q z ≡ false) same e
    by (inr y) = false_from_ne_true (is_elder q x) (λ h. both_ways (is_prefix p q) a (elder-deeper p q y.0 y.1.0 (subst (λ (z : List ℕ). is_elder q z ≡ true) y.1.1 h)))

-- ---- the world in which a branch was stopped, and that in which it took its step before

-- an order from the one that does the same as that order from the other
pub record Back (s : Setup) (u v : World) (ps : List (List ℕ)) : Type 0 where
  pub places : List (List ℕ)
  pub prompt : ArePrompt s u places
  pub ends : (after_bare s u places).outcome ≡ (after_bare s v ps).outcome
  pub asking : asks s u places ≡ asks s v ps

-- its first step does the same, and so do the others
back-step : (s : Setup) (u v : World) (q : List ℕ) (ps : List (List ℕ)) (m : Record) → u.events ≡ [] → v.events ≡ [] → IsReady s u q u.last m → IsReady s v q v.last m → asked (does s v q v.last m).raises ≡ asked (does s u q u.last m).raises → Back s (after s u q m) (after s v q m) ps → Back s u v (q ∷ ps)
back-step s u v q ps m eu ev hu hv same x =
    let gu = go-is s u q m hu in
    let gv = go-is s v q m hv in
    let first : asks_at s u q ≡ asks_at s v q = asks-is s u q m hu ∙ sym same ∙ sym (asks-is s v q m hv) in
    let others : asks s (go s u q) x.places ≡ asks s (go s v q) ps = ap (λ z. asks s z x.places) gu ∙ x.asking ∙ sym (ap (λ z. asks s z ps) gv) in
    record {
      places = q ∷ x.places;
      prompt = (ready-prompt s u q m hu eu, subst (λ (z : World). ArePrompt s z x.places) (sym gu) x.prompt);
      ends = ap (λ (z : World). (after_bare s z x.places).outcome) gu ∙ x.ends ∙ sym (ap (λ (z : World). (after_bare s z ps).outcome) gv);
      asking = omega (arith, first, others);
    }

-- from a world with other counts, which don't matter
pub recounted : (s : Setup) (w : World) (ds : List ℕ) (ps : List (List ℕ)) → AreLike s (asks s (with_counts ds w) ps) w.counts ds → ArePrompt s (with_counts ds w) ps → Back s w (with_counts ds w) ps
recounted s w ds ps like prompt =
    let n = asks s (with_counts ds w) ps in
    let y = carried s (with_counts ds w) w.counts ps 0 (like-less s (n + 0) n ds w.counts (omega arith) (like-back s n w.counts ds like)) prompt in
    record { places = ps; prompt = y.prompt; ends = ap (λ (z : World). z.outcome) y.ends; asking = y.asking }

module _ (s : Setup) (p : List ℕ) (r : Record) (e : Effect) (calm : KeepsOn e) where
  module _ (u : World) (w : IsPending s u p r e) (stopped : is_stopped p u.branches ≡ true) where
    whole-at : AllAt p not_failed u.branches
    whole-at = all-at p not_failed r u.branches w.each w.there (rw (unfinished-by u p u.last (slots_at s u p) r w.ready) refl)

    still-stopped : is_stopped p (ahead s u p r e).branches ≡ true
    still-stopped = stopped-stays p p e.after e.children (beside-itself p) u.branches whole-at stopped

    free-before : (q : List ℕ) → is_prefix p q ≡ false → is_stopped q (ahead s u p r e).branches ≡ false → is_stopped q u.branches ≡ false
    free-before q a h = false_from_ne_true (is_stopped q u.branches) (λ t. both_ways _ h (stopped-stays p q e.after e.children (λ i rest b. both_ways (is_prefix p q) a (beside-deeper p q i rest b)) u.branches whole-at t))

    each-ahead : IsOneEach (ahead s u p r e).branches
    each-ahead = one-after p e.after e.children u.branches w.each

    someone-ahead : Someone s (ahead s u p r e)
    someone-ahead =
        let v = ahead s u p r e in
        let there = record-there in
        stopper s v (ap is_over (none-over e.outcome calm.silent u.outcome) ∙ w.running) w.early refl rooted-ahead p [] (root-free v.branches) still-stopped there
      where
        next-is : next s u p u.last r ≡ world_with p (number_in s.machine r) u.last e u
        next-is = ap (λ (f : Effect). world_with p (number_in s.machine r) u.last f u) w.so

        rooted-ahead : IsRooted (ahead s u p r e).branches
        rooted-ahead = subst (λ (z : World). IsRooted z.branches) next-is (rooted-next s u p u.last r w.there w.rooted)

        record-there : is_some (record_at p (ahead s u p r e).branches) ≡ true
        record-there = ap is_some (record-after p e.after r e.children u.branches w.there)

    module _ (q : List ℕ) (m : Record) (h : IsReady s (ahead s u p r e) q u.last m) where
      -- ---- a step at a place apart was accepted

      apart-before : IsApart p q → IsReady s u q u.last m
      apart-before a = record { running = w.running; early = h.early; there = there; free = free; ready = ready }
        where
          v : World
          v = ahead s u p r e

          there : record_at q u.branches ≡ Some m
          there = sym (record-stays p e.after e.children q u.branches a.left) ∙ h.there

          free : is_stopped q u.branches ≡ false
          free = free-before q a.left h.free

          at-q : AllAt q not_failed u.branches
          at-q = all-at q not_failed m u.branches w.each there (rw (unfinished-by v q u.last (slots_at s v q) m h.ready) refl)

          no-elder : is_elder q p ≡ false
          no-elder = false_from_ne_true (is_elder q p) (λ t. both_ways (is_stopped q u.branches) free (elder-stopped q p u.branches t at-q stopped))

          crowd : (k : ℕ) → is_crowded k q v.branches ≡ is_crowded k q u.branches
          crowd k = ap (λ (bs : List Branch). is_full k (undone_in (map (λ b. b.current) bs))) (passes p e.after e.children (is_elder q) u.branches (elder-misses-under p q a.left no-elder))

          later : refusal_by u q u.last (slots_at s v q) m ≡ None
          later = ready-later v u q u.last (slots_at s v q) m (sym (children-stay p e.after e.children q u.branches a)) (λ f. sym (crowd (slots_at s v q)) ∙ f) (rw w.untold (omega arith)) h.ready

          ready : refusal_by u q u.last (slots_at s u q) m ≡ None
          ready = subst (λ (o : Option (List ℕ)). refusal_by u q u.last (limit_of (limits_in s.machine) o) m ≡ None) (forker-stays p e.after e.children q u.branches a.left) later

      -- ---- so was one above it

      module _ (a : is_prefix q p ≡ true) (d : is_prefix p q ≡ false) where
        there-before : record_at q u.branches ≡ Some m
        there-before = sym (record-stays p e.after e.children q u.branches d) ∙ h.there

        under : (i : ℕ) × ((rest : List ℕ) × (p ≡ q ++ i ∷ rest))
        under = below q p a d

        deep : is_some (record_at (q ++ under.0 ∷ under.1.0) u.branches) ≡ true
        deep = subst (λ (z : List ℕ). is_some (record_at z u.branches) ≡ true) under.1.1 (ap is_some w.there)

        joins : is_joining m ≡ true
        joins = rw there-before at (rooted-above u.branches w.rooted under.1.0 q under.0 deep)

        abbrev child : List ℕ
        child = q ++ under.0 ∷ []

        child-above : is_prefix child p ≡ true
        child-above = subst (λ (z : List ℕ). is_prefix child z ≡ true) (append_assoc q (under.0 ∷ []) under.1.0 ∙ sym under.1.1) (prefix-append child under.1.0)

        -- a branch on the way that waits, and that nothing stops, would keep the one above it busy
        never-deeper : is_stopped child u.branches ≡ false → is_prefix p child ≡ false → ⊥
        never-deeper free strict =
            let v = ahead s u p r e in
            let f = below child p child-above strict in
            let c = the-record (record_at child u.branches) (rooted-above u.branches w.rooted f.1.0 child f.0 (subst (λ (z : List ℕ). is_some (record_at z u.branches) ≡ true) f.1.1 (ap is_some w.there))) in
            let there : record_at child v.branches ≡ Some c.0 = record-stays p e.after e.children child u.branches strict ∙ c.1.0 in
            let g = joining-goes c.0 c.1.1 in
            let going : IsGoing child v.branches c.0 = record { there = there; undone = g.0; whole = g.1 } in
            let failed = going-fails v.branches q under.0 c.0 going (joining-free v q u.last (slots_at s v q) m joins h.ready) in
            both_ways (is_stopped child v.branches) (not-stopped p child e.after e.children u.branches strict calm.whole free) (failed-stops q under.0 [] c.0 v.branches each-ahead there g.1 failed)

        child-stopped : is_stopped child u.branches ≡ true
        child-stopped = by (is_stopped child u.branches) (is_prefix p child) refl refl
          where
            by : (f t : Bool) → is_stopped child u.branches ≡ f → is_prefix p child ≡ t → is_stopped child u.branches ≡ true
            by true t x y = x
            by false true x y = absurd (both_ways (is_stopped child u.branches) x (subst (λ (z : List ℕ). is_stopped z u.branches ≡ true) (one-place p child y child-above) stopped))
            by false false x y = absurd (never-deeper x y)

        above-before : IsReady s u q u.last m
        above-before =
            let free = free-before q d h.free in
            record {
              running = w.running;
              early = h.early;
              there = there-before;
              free = free;
              ready = joining-ready u q u.last (slots_at s u q) m joins (not-busy (children_at q u.branches) (stopped-by-child q under.0 u.branches child-stopped free)) (rw w.untold (omega arith));
            }

  -- ---- each order

  -- of an order from where it took its step
  abbrev Before : List (List ℕ) → Type 0
  Before ps = (u : World) → IsPending s u p r e → is_stopped p u.branches ≡ true → IsHeldFor s u r (asks s (ahead s u p r e) ps) → ArePrompt s (ahead s u p r e) ps → Back s u (ahead s u p r e) ps

  module _ (q : List ℕ) (ps : List (List ℕ)) (more : Before ps) (u : World) (w : IsPending s u p r e) (stopped : is_stopped p u.branches ≡ true) (m : Record) (h : IsReady s (ahead s u p r e) q u.last m) (prompt : ArePrompt s (after s (ahead s u p r e) q m) ps)
      (held : IsHeldFor s u r (asked (does s (ahead s u p r e) q u.last m).raises + asks s (after s (ahead s u p r e) q m) ps)) where
    abbrev all : ℕ
    all = asked (does s (ahead s u p r e) q u.last m).raises + asks s (after s (ahead s u p r e) q m) ps

    beside : IsApart p q → Back s u (ahead s u p r e) (q ∷ ps)
    beside a =
        let v = ahead s u p r e in
        let k = apart-before u w stopped q m h a in
        let same : does s v q u.last m ≡ does s u q u.last m = same-ahead s u p q r m e calm w k all held a in
        let is : after s v q m ≡ ahead s (after s u q m) p r e = commutes s u p q r m e calm w k all held a in
        let f = does s u q u.last m in
        let behind : is_stopped p (after s u q m).branches ≡ true =
        stopped-stays q p f.after f.children (λ i rest b. both_ways (is_prefix q p) a.right (beside-deeper q p i rest b)) u.branches (all-at q not_failed m u.branches w.each k.there (rw (unfinished-by u q u.last (slots_at s u q) m k.ready) refl)) stopped in
        let rest : asks s (after s v q m) ps ≡ asks s (ahead s (after s u q m) p r e) ps = ap (λ z. asks s z ps) is in
        let once = ap (λ (z : Effect). asked z.raises) same in
        back-step s u v q ps m w.untold refl k h once
        (subst (λ (z : World). Back s (after s u q m) z ps) (sym is)
        (more (after s u q m) (still-pending s u p q r m e calm w k all held a) behind (held-next s u q r m all (asks s (ahead s (after s u q m) p r e) ps) (omega (arith, rest, once)) held) (subst (λ (z : World). ArePrompt s z ps) is prompt)))

    above : is_prefix q p ≡ true → is_prefix p q ≡ false → Back s u (ahead s u p r e) (q ∷ ps)
    above a d = by (above-same s u p q r m e calm w k all held a d)
      where
        v : World
        v = ahead s u p r e

        k : IsReady s u q u.last m
        k = above-before u w stopped q m h a d

        once : asked (does s v q u.last m).raises ≡ asked (does s u q u.last m).raises
        once = above-asked s u p q r m e calm w k all held a d

        ds : List ℕ
        ds = counts_after (number_in s.machine m) (does s u q u.last m).raises (counts_after (number_in s.machine r) e.raises u.counts)

        -- the others from where the counts differ
        others : after s v q m ≡ with_counts ds (after s u q m) → Back s (after s u q m) (after s v q m) ps
        others is =
            let n = asks s (with_counts ds (after s u q m)) ps in
            let same : asks s (after s v q m) ps ≡ n = ap (λ z. asks s z ps) is in
            let like : AreLike s n (after s u q m).counts ds = like-next s u p q r m e all n w.so held (omega (arith, same, once)) in
            subst (λ (z : World). Back s (after s u q m) z ps) (sym is) (recounted s (after s u q m) ds ps like (subst (λ (z : World). ArePrompt s z ps) is prompt))

        by : (after s v q m ≡ with_counts ds (after s u q m)) ⊎ ((after s u q m ≡ u) × (after s v q m ≡ v)) → Back s u v (q ∷ ps)
        by (inl is) = back-step s u v q ps m w.untold refl k h once (others is)
        by (inr (here, there)) =
            let c = count_of u.counts (number_in s.machine r) in
            let same : asks s (after s v q m) ps ≡ asks s v ps = ap (λ z. asks s z ps) there in
            back-step s u v q ps m w.untold refl k h once
            (subst (λ (z : World). Back s z (after s v q m) ps) (sym here) (subst (λ (z : World). Back s u z ps) (sym there)
            (more u w stopped (held-less s r c (c + (all + 1)) c (c + (asks s v ps + 1)) (omega arith) (omega (arith, same)) held) (subst (λ (z : World). ArePrompt s z ps) there prompt))))

    never-at : is_prefix p q ≡ true → ⊥
    never-at a = by (at-or-under p q a)
      where
        v : World
        v = ahead s u p r e

        by : (p ≡ q) ⊎ ((i : ℕ) × ((rest : List ℕ) × (q ≡ p ++ i ∷ rest))) → ⊥
        by (inl is) = both_ways (is_stopped q v.branches) h.free (subst (λ (z : List ℕ). is_stopped z v.branches ≡ true) is (still-stopped u w stopped))
        by (inr x) = both_ways (is_stopped q v.branches) h.free (subst (λ (z : List ℕ). is_stopped z v.branches ≡ true) (sym x.1.1) (stopped-under p (x.0 ∷ x.1.0) v.branches (still-stopped u w stopped)))

    one-back : Back s u (ahead s u p r e) (q ∷ ps)
    one-back = by (is_prefix p q) (is_prefix q p) refl refl
      where
        by : (b c : Bool) → is_prefix p q ≡ b → is_prefix q p ≡ c → Back s u (ahead s u p r e) (q ∷ ps)
        by true c x y = absurd (never-at x)
        by false true x y = above y x
        by false false x y = beside (record { left = x; right = y })

  pub taken-back : (ps : List (List ℕ)) → Before ps
  taken-back [] u w stopped held prompt = record { places = []; prompt = tt; ends = sym (none-over e.outcome calm.silent u.outcome); asking = refl }
  taken-back (q ∷ ps) u w stopped held prompt =
      let v = ahead s u p r e in
      let x = prompt-ready s v q (someone-ahead u w stopped) w.early refl prompt.0 in
      let is = go-is s v q x.0 x.1 in
      let sum : asks s v (q ∷ ps) ≡ asked (does s v q u.last x.0).raises + asks s (after s v q x.0) ps = λ i. asks-is s v q x.0 x.1 i + asks s (is i) ps in
      one-back q ps (taken-back ps) u w stopped x.0 x.1 (subst (λ (z : World). ArePrompt s z ps) is prompt.1) (subst (λ n. IsHeldFor s u r n) sum held)
