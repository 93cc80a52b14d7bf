-- A branch that waits for others reads of them only what they have come to.
use Rattle.std.proofs.Common.{ℕ, ◌≡◌, ◌≤◌, ◌+◌, ◌==◌, ◌&&◌, Bool, true, false, not, List, [], ◌∷◌, ◌++◌, refl, sym, ◌∙◌, ap, arith, cond, length, map, Some, None, Option}
use Rattle.std.proofs.lemmas.Bool.{and_parts, and_from, both_ways, false_from_ne_true, eqb-true, eq-eqb}
use Rattle.std.proofs.lemmas.Grind.{flat_map-append}
use Rattle.std.proofs.lemmas.List.{map-append}
use Rattle.std.proofs.lemmas.List.Elements.{filter-append}
use Rattle.std.specs.List.{AllByRecursion, filter}
use Rattle.std.specs.Option.{option_or}
use Rattle.asl_history.specs.Places.{is_prefix, is_child}
use Rattle.asl_step.specs.Bounds.{are_kept}
use Rattle.asl_step.specs.Records.{is_failed}
use Rattle.asl_step.specs.declared.effect.Children.{Children}
use Rattle.asl_step.specs.declared.effect.Children.TheVariants.{Kept, Removed, Forked as Made}
use Rattle.asl_step.specs.declared.record.ErrorOut.{ErrorOut}
use Rattle.asl_step.specs.declared.record.Record.{Record}
use Rattle.asl_step.specs.declared.record.Record.TheVariants.{New, Ready, Pausing, Again, Forked, Done, Failed}
use Rattle.asl_run_branches.specs.Branches.{Branch, same_place, first_of, record_at, children_at, numbered, made, family, branch_after, branches_after}
use Rattle.asl_run_branches.proofs.Linking.{same-eq}
use Rattle.asl_kinds.specs.Forks.{first_error, error_in}
use Rattle.asl_exec.specs.Exchanges.{IsOneEach}
use Rattle.asl_exec_swap_laws.proofs.Apart.{prefix-trans}
use Rattle.asl_exec_swap_laws.proofs.Fewer.{AllAt}
use Rattle.asl_exec_swap_laws.proofs.Leaving.{Under, under, stays}

-- ---- the first error among those directly under a place

error-append : (xs ys : List Record) → first_error (xs ++ ys) ≡ option_or (first_error xs) (first_error ys)
error-append [] ys = refl
error-append (x ∷ xs) ys = ap (option_or (error_in x)) (error-append xs ys) ∙ assoc (error_in x) (first_error xs) (first_error ys)
  where
    assoc : (a b c : Option ErrorOut) → option_or a (option_or b c) ≡ option_or (option_or a b) c
    assoc None b c = refl
    assoc (Some e) b c = refl

no-error : (r : Record) → is_failed r ≡ false → error_in r ≡ None
no-error (New n x) h = refl
no-error (Ready n x) h = refl
no-error (Pausing n x since until) h = refl
no-error (Again n x since uses until) h = refl
no-error (Forked n x since uses items) h = refl
no-error (Done x) h = refl
no-error (Failed e) h = (cc)

child-up : (q p : List ℕ) (i : ℕ) → is_child q (p ++ i ∷ []) ≡ true → is_prefix p q ≡ true
child-up q [] i h = refl
child-up [] (j ∷ []) i h = (cc)
child-up [] (j ∷ k ∷ p) i h = (cc)
child-up (m ∷ q) (j ∷ p) i h =
    let a = and_parts (m == j) (is_child q (p ++ i ∷ [])) h in
    and_from (j == m) (is_prefix p q) (eq-eqb j m (sym (eqb-true m j a.0))) (child-up q p i a.1)

-- a child of a place that is strictly under another one shows that the place is at or under that
child-under : (q p x : List ℕ) → is_child q x ≡ true → is_prefix p x ≡ true → same_place p x ≡ false → is_prefix p q ≡ true
child-under q [] x c u s = refl
child-under q (j ∷ p) [] c u s = (cc)
child-under [] (j ∷ []) (k ∷ []) c u s = absurd (both_ways (same_place (j ∷ []) (k ∷ [])) s (and_from (j == k) true (and_parts (j == k) true u).0 refl))
child-under [] (j ∷ l ∷ p) (k ∷ []) c u s = absurd (both_ways false refl (and_parts (j == k) false u).1)
child-under [] (j ∷ p) (k ∷ m ∷ x) c u s = (cc)
child-under (i ∷ q) (j ∷ p) (k ∷ x) c u s =
    let a = and_parts (i == k) (is_child q x) c in
    let b = and_parts (j == k) (is_prefix p x) u in
    and_from (j == i) (is_prefix p q) (eq-eqb j i (eqb-true j k b.0 ∙ sym (eqb-true i k a.0))) (child-under q p x a.1 b.1 (rw b.0 at s))

none-numbered : (q p : List ℕ) (i : ℕ) (rs : List Record) → is_prefix p q ≡ false → filter (λ b. is_child q b.place) (numbered p i rs) ≡ []
none-numbered q p i [] a = refl
none-numbered q p i (r ∷ rs) a = rw (false_from_ne_true (is_child q (p ++ i ∷ [])) (λ h. both_ways (is_prefix p q) a (child-up q p i h))) (none-numbered q p (i + 1) rs a)

none-made : (q p : List ℕ) (c : Children) → is_prefix p q ≡ false → filter (λ b. is_child q b.place) (made p c) ≡ []
none-made q p Kept a = refl
none-made q p Removed a = refl
none-made q p (Made rs) a = none-numbered q p 0 rs a

module _ (p q : List ℕ) (r : Record) (c : Children) (a : is_prefix p q ≡ false) (whole : is_failed r ≡ false) where
  one-error : (b : Branch) → (same_place p b.place ≡ true → is_failed b.current ≡ false) → first_error (children_at q (branch_after p r c b)) ≡ first_error (children_at q (b ∷ []))
  one-error b w = by (same_place p b.place) (is_prefix p b.place) (is_child q b.place) refl refl refl
    where
      by : (s u k : Bool) → same_place p b.place ≡ s → is_prefix p b.place ≡ u → is_child q b.place ≡ k → first_error (children_at q (cond s (family p r c) (cond (u && not (are_kept c)) [] (b ∷ [])))) ≡ first_error (children_at q (b ∷ []))
      by true u true es eu ek = rw (same-eq p b.place es, ek) (rw (none-made q p c a, no-error r whole, no-error b.current (w es)) refl)
      by true u false es eu ek = rw (same-eq p b.place es, ek) (rw (none-made q p c a) refl)
      by false true k es eu ek = removed (are_kept c)
        where
          no : is_child q b.place ≡ false
          no = false_from_ne_true (is_child q b.place) (λ h. both_ways (is_prefix p q) a (child-under q p b.place h eu es))

          removed : (kept : Bool) → first_error (children_at q (cond (true && not kept) [] (b ∷ []))) ≡ first_error (children_at q (b ∷ []))
          removed true = refl
          removed false = rw no refl
      by false false k es eu ek = refl

  -- it stays where one that hasn't failed steps, and doesn't fail
  pub error-stays : (bs : List Branch) → AllAt p (λ m. not (is_failed m)) bs → first_error (children_at q (branches_after p r c bs)) ≡ first_error (children_at q bs)
  error-stays [] w = refl
  error-stays (b ∷ bs) w =
      let f : Branch → Record = λ b. b.current in
      let T : Branch → Bool = λ b. is_child q b.place in
      let xs = branch_after p r c b in
      let ys = branches_after p r c bs in
      ap first_error (ap (map f) (filter-append T xs ys) ∙ map-append f (filter T xs) (filter T ys))
      ∙ error-append (map f (filter T xs)) (map f (filter T ys))
      ∙ rw (one-error b (λ s. not-so b.current (w.0 s)), error-stays bs w.1) refl
      ∙ sym (error-append (map f (filter T (b ∷ []))) (map f (filter T bs)))
      ∙ sym (ap first_error (ap (map f) (filter-append T (b ∷ []) bs) ∙ map-append f (filter T (b ∷ [])) (filter T bs)))
    where
      not-so : (m : Record) → not (is_failed m) ≡ true → is_failed m ≡ false
      not-so m h = by (is_failed m) refl h
        where
          by : (f : Bool) → is_failed m ≡ f → not f ≡ true → is_failed m ≡ false
          by true e h = (cc)
          by false e h = e

-- ---- where the branches under a place don't stay, it doesn't matter what happened there

gone : (q p : List ℕ) (r : Record) (c : Children) (bs : List Branch) → is_prefix q p ≡ true → is_prefix p q ≡ false → are_kept c ≡ false → Under p bs → branches_after q r c bs ≡ []
gone q p r c [] a d k u = refl
gone q p r c (b ∷ bs) a d k u = rw (not-here, above, k) (gone q p r c bs a d k u.1)
  where
    above : is_prefix q b.place ≡ true
    above = prefix-trans q p b.place a u.0

    not-here : same_place q b.place ≡ false
    not-here = false_from_ne_true (same_place q b.place) (λ s. both_ways (is_prefix p q) d (rw (same-eq q b.place s) u.0))

pub absorbs : (q p : List ℕ) (r s : Record) (c d : Children) (bs : List Branch) → is_prefix q p ≡ true → is_prefix p q ≡ false → are_kept c ≡ false → branches_after q r c (branches_after p s d bs) ≡ branches_after q r c bs
absorbs q p r s c d [] a u k = refl
absorbs q p r s c d (b ∷ bs) a u k =
    flat_map-append (branch_after q r c) (branch_after p s d b) (branches_after p s d bs)
    ∙ rw (one (is_prefix p b.place) refl, absorbs q p r s c d bs a u k) refl
    ∙ sym (flat_map-append (branch_after q r c) (b ∷ []) bs)
  where
    one : (v : Bool) → is_prefix p b.place ≡ v → branches_after q r c (branch_after p s d b) ≡ branches_after q r c (b ∷ [])
    one true e = gone q p r c (branch_after p s d b) a u k (under p s d b e) ∙ sym (gone q p r c (b ∷ []) a u k (e, tt))
    one false e = ap (branches_after q r c) (stays p s d b e)

-- ---- where a branch does what it did, and those under it stay, nothing changes

abbrev pub AllAre : List ℕ → Record → List Branch → Type 0
AllAre q m bs = AllByRecursion (λ b. same_place q b.place ≡ true → b.current ≡ m) bs

pub nothing-changes : (q : List ℕ) (m : Record) (bs : List Branch) → AllAre q m bs → branches_after q m Kept bs ≡ bs
nothing-changes q m [] h = refl
nothing-changes q m (b ∷ bs) h = by (same_place q b.place) (is_prefix q b.place) refl (nothing-changes q m bs h.1)
  where
    by : (s u : Bool) → same_place q b.place ≡ s → branches_after q m Kept bs ≡ bs → (cond s (family q m Kept) (cond (u && false) [] (b ∷ [])) ++ branches_after q m Kept bs) ≡ b ∷ bs
    by true u e more =
        let here : q ≡ b.place = same-eq q b.place e in
        let is : b.current ≡ m = h.0 e in
        λ i. record { place = here i; current = sym is i } ∷ more i
    by false true e more = ap (λ xs. b ∷ xs) more
    by false false e more = ap (λ xs. b ∷ xs) more

same-passed : (q : List ℕ) (m : Record) (bs : List Branch) → AllByRecursion (λ b. b.current ≡ m) (filter (λ b. same_place q b.place) bs) → AllAre q m bs
same-passed q m [] h = tt
same-passed q m (b ∷ bs) h = by (same_place q b.place) refl (same-passed q m bs) h
  where
    by : (c : Bool) → same_place q b.place ≡ c → (AllByRecursion (λ b. b.current ≡ m) (filter (λ b. same_place q b.place) bs) → AllAre q m bs) → AllByRecursion (λ b. b.current ≡ m) (cond c (b ∷ filter (λ b. same_place q b.place) bs) (filter (λ b. same_place q b.place) bs)) → AllAre q m (b ∷ bs)
    by true e more h = ((λ t. h.0), more h.1)
    by false e more h = ((λ t. absurd (both_ways (same_place q b.place) e t)), more h)

one-same : (m : Record) (bs : List Branch) → length bs ≤ 1 → first_of bs ≡ Some m → AllByRecursion (λ b. b.current ≡ m) bs
one-same m [] l e = tt
one-same m (b ∷ []) l e = ((cc), tt)
one-same m (b ∷ d ∷ bs) l e = absurd (omega (arith, l))

pub all-are : (q : List ℕ) (m : Record) (bs : List Branch) → IsOneEach bs → record_at q bs ≡ Some m → AllAre q m bs
all-are q m bs one h = same-passed q m bs (one-same m (filter (λ b. same_place q b.place) bs) (one q) h)
