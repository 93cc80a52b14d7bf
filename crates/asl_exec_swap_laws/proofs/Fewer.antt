-- What happens at a place makes no more branches elsewhere fail, and no more wait.
use Rattle.std.proofs.Common.{ℕ, ◌≡◌, ◌+◌, ◌≤◌, ◌&&◌, ◌||◌, Bool, true, false, not, List, [], ◌∷◌, ◌++◌, refl, sym, ◌∙◌, ap, arith, cond, length, map, length-append, Some}
use Rattle.std.specs.Prelude.{nat_lt, nat_le}
use Rattle.std.proofs.lemmas.Bool.{and_parts, and_from, and_right, both_ways, lt-ltb, ltb-false, le-ltb, leb-false, lt-leb}
use Rattle.std.proofs.lemmas.List.Elements.{filter-append}
use Rattle.std.specs.List.{AllByRecursion, filter, list_any}
use Rattle.asl_history.specs.Places.{is_prefix, is_beside}
use Rattle.asl_step.specs.Bounds.{are_kept}
use Rattle.asl_step.specs.Records.{is_done, is_failed}
use Rattle.asl_step.specs.declared.effect.Children.{Children}
use Rattle.asl_step.specs.declared.effect.Children.TheVariants.{Kept, Removed, Forked as Made}
use Rattle.asl_step.specs.declared.record.Record.{Record}
use Rattle.asl_run_branches.specs.Branches.{Branch, same_place, first_of, record_at, is_stopped, is_elder, elders_at, undone_in, numbered, made, family, branch_after, branches_after}
use Rattle.asl_run_branches.specs.Turns.{is_full, is_crowded}
use Rattle.asl_run_branches.proofs.Linking.{same-eq}
use Rattle.asl_exec.specs.Exchanges.{IsOneEach}
use Rattle.asl_exec_swap_laws.proofs.Apart.{MissesChildren, beside-misses, elder-misses}

-- ---- what the one branch at p does, all at p do

abbrev pub AllAt : List ℕ → (Record → Bool) → List Branch → Type 0
AllAt p B bs = AllByRecursion (λ b. same_place p b.place ≡ true → B b.current ≡ true) bs

all-passed : (p : List ℕ) (B : Record → Bool) (bs : List Branch) → AllByRecursion (λ b. B b.current ≡ true) (filter (λ b. same_place p b.place) bs) → AllAt p B bs
all-passed p B [] h = tt
all-passed p B (b ∷ bs) h = by (same_place p b.place) refl (all-passed p B bs) h
  where
    by : (c : Bool) → same_place p b.place ≡ c → (AllByRecursion (λ b. B b.current ≡ true) (filter (λ b. same_place p b.place) bs) → AllAt p B bs) → AllByRecursion (λ b. B b.current ≡ true) (cond c (b ∷ filter (λ b. same_place p b.place) bs) (filter (λ b. same_place p b.place) bs)) → AllAt p B (b ∷ bs)
    by true e more h = ((λ t. h.0), more h.1)
    by false e more h = ((λ t. absurd (both_ways (same_place p b.place) e t)), more h)

one-passed : (B : Record → Bool) (r : Record) (bs : List Branch) → length bs ≤ 1 → first_of bs ≡ Some r → B r ≡ true → AllByRecursion (λ b. B b.current ≡ true) bs
one-passed B r [] l h e = tt
one-passed B r (b ∷ []) l h e = let same : b.current ≡ r = cc in (rw same e, tt)
one-passed B r (b ∷ d ∷ bs) l h e = absurd (omega (arith, l))

pub all-at : (p : List ℕ) (B : Record → Bool) (r : Record) (bs : List Branch) → IsOneEach bs → record_at p bs ≡ Some r → B r ≡ true → AllAt p B bs
all-at p B r bs one h e = all-passed p B bs (one-passed B r (filter (λ b. same_place p b.place) bs) (one p) h e)

-- ---- branches that do such a thing, at places that pass a test

abbrev pub such : (Record → Bool) → (List ℕ → Bool) → List Branch → List Branch
such B T bs = filter (λ b. B b.current && T b.place) bs

such-append : (B : Record → Bool) (T : List ℕ → Bool) (xs ys : List Branch) → length (such B T (xs ++ ys)) ≡ length (such B T xs) + length (such B T ys)
such-append B T xs ys = ap length (filter-append (λ b. B b.current && T b.place) xs ys) ∙ length-append (such B T xs) (such B T ys)

numbered-miss : (B : Record → Bool) (T : List ℕ → Bool) (p : List ℕ) (i : ℕ) (rs : List Record) → MissesChildren p T → such B T (numbered p i rs) ≡ []
numbered-miss B T p i [] m = refl
numbered-miss B T p i (r ∷ rs) m = rw (and_right (B r) (T (p ++ i ∷ [])) (m i)) (numbered-miss B T p (i + 1) rs m)

made-miss : (B : Record → Bool) (T : List ℕ → Bool) (p : List ℕ) (c : Children) → MissesChildren p T → such B T (made p c) ≡ []
made-miss B T p Kept m = refl
made-miss B T p Removed m = refl
made-miss B T p (Made rs) m = numbered-miss B T p 0 rs m

no-more : (v w : Bool) (x y : Branch) (xs : List Branch) → (v ≡ true → w ≡ true) → xs ≡ [] → length (cond v (x ∷ xs) xs) ≤ length (cond w (y ∷ []) [])
no-more true w x y xs h e = rw (e, h refl) (omega arith)
no-more false w x y xs h e = rw e (omega arith)

module _ (p : List ℕ) (r : Record) (c : Children) (B : Record → Bool) (T : List ℕ → Bool) (m : MissesChildren p T) where
  of-one : (b : Branch) → (B r ≡ true → same_place p b.place ≡ true → B b.current ≡ true) → length (such B T (branch_after p r c b)) ≤ length (such B T (b ∷ []))
  of-one b o = by (same_place p b.place) (is_prefix p b.place && not (are_kept c)) refl
    where
      by : (s k : Bool) → same_place p b.place ≡ s → length (such B T (cond s (family p r c) (cond k [] (b ∷ [])))) ≤ length (such B T (b ∷ []))
      by true k e = no-more (B r && T p) (B b.current && T b.place) _ b (such B T (made p c)) (λ h. let a = and_parts (B r) (T p) h in and_from _ _ (o a.0 e) (ap T (sym (same-eq p b.place e)) ∙ a.1)) (made-miss B T p c m)
      by false true e = omega arith
      by false false e = omega arith

  pub fewer : (bs : List Branch) → (B r ≡ true → AllAt p B bs) → length (such B T (branches_after p r c bs)) ≤ length (such B T bs)
  fewer [] o = omega arith
  fewer (b ∷ bs) o =
      omega (
        arith,
        such-append B T (branch_after p r c b) (branches_after p r c bs),
        such-append B T (b ∷ []) bs,
        of-one b (λ h. (o h).0),
        fewer bs (λ h. (o h).1),
      )

-- ---- a branch isn't stopped

any-such : (f : Branch → Bool) (bs : List Branch) → list_any f bs ≡ nat_lt 0 (length (filter f bs))
any-such f [] = refl
any-such f (b ∷ bs) = by (f b) (any-such f bs)
  where
    by : (c : Bool) → list_any f bs ≡ nat_lt 0 (length (filter f bs)) → (c || list_any f bs) ≡ nat_lt 0 (length (cond c (b ∷ filter f bs) (filter f bs)))
    by true more = sym (lt-ltb 0 _ (omega arith))
    by false more = more

still-none : (a b : ℕ) → a ≤ b → nat_lt 0 b ≡ false → nat_lt 0 a ≡ false
still-none a b l h = le-ltb 0 a (omega (arith, l, ltb-false 0 b h))

pub not-stopped : (p q : List ℕ) (r : Record) (c : Children) (bs : List Branch) → is_prefix p q ≡ false → is_failed r ≡ false → is_stopped q bs ≡ false → is_stopped q (branches_after p r c bs) ≡ false
not-stopped p q r c bs a whole h =
    let f : Branch → Bool = λ b. is_failed b.current && is_beside q b.place in
    let l = fewer p r c is_failed (is_beside q) (beside-misses p q a) bs (λ t. absurd (both_ways (is_failed r) whole t)) in
    any-such f (branches_after p r c bs) ∙ still-none _ _ l (sym (any-such f bs) ∙ h)

-- ---- nor is its Map without room for it

abbrev pub is_undone : Record → Bool
is_undone r = not (is_done r)

undone-such : (q : List ℕ) (bs : List Branch) → undone_in (elders_at q bs) ≡ length (such is_undone (is_elder q) bs)
undone-such q [] = refl
undone-such q (b ∷ bs) = by (is_elder q b.place) (is_done b.current) refl (undone-such q bs)
  where
    by : (e d : Bool) → is_done b.current ≡ d → undone_in (elders_at q bs) ≡ length (such is_undone (is_elder q) bs) → undone_in (map (λ b. b.current) (cond e (b ∷ filter (λ b. is_elder q b.place) bs) (filter (λ b. is_elder q b.place) bs))) ≡ length (cond (not d && e) (b ∷ such is_undone (is_elder q) bs) (such is_undone (is_elder q) bs))
    by true true f more = rw f (omega (arith, more))
    by true false f more = rw f (omega (arith, more))
    by false true f more = more
    by false false f more = more

not-full : (limit a b : ℕ) → a ≤ b → is_full limit b ≡ false → is_full limit a ≡ false
not-full limit a b l h = by (nat_lt 0 limit) (nat_le limit b) refl h
  where
    by : (z n : Bool) → nat_le limit b ≡ n → (z && n) ≡ false → (z && nat_le limit a) ≡ false
    by true true e h = absurd (both_ways true h refl)
    by true false e h = lt-leb limit a (omega (arith, l, leb-false limit b e))
    by false n e h = refl

pub not-crowded : (p q : List ℕ) (r : Record) (c : Children) (limit : ℕ) (bs : List Branch) → is_prefix p q ≡ false → AllAt p is_undone bs → is_crowded limit q bs ≡ false → is_crowded limit q (branches_after p r c bs) ≡ false
not-crowded p q r c limit bs a o h =
    let l = fewer p r c is_undone (is_elder q) (elder-misses p q a) bs (λ t. o) in
    not-full limit _ _ (omega (arith, l, undone-such q bs, undone-such q (branches_after p r c bs))) h
