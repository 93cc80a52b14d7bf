-- At most one branch is at each place, whatever steps are taken.
use Rattle.std.proofs.Common.{ℕ, ◌≡◌, ◌≢◌, ◌+◌, ◌≤◌, ◌==◌, ◌&&◌, Bool, true, false, not, List, [], ◌∷◌, ◌++◌, refl, ◌∙◌, ap, subst, arith, cond, length, max, length-append, Some, None, Option}
use Rattle.std.specs.Prelude.{is_none}
use Rattle.std.proofs.lemmas.Bool.{both_ways, false_from_ne_true, and_left, and_right, ne_eqb, cond_both}
use Rattle.std.proofs.lemmas.List.Elements.{filter-append}
use Rattle.std.specs.List.{filter}
use Rattle.asl_history.specs.Places.{is_prefix}
use Rattle.asl_step.specs.Bounds.{are_kept}
use Rattle.asl_step.specs.declared.effect.Children.{Children}
use Rattle.asl_step.specs.declared.effect.Children.TheVariants.{Kept, Removed, Forked as Made}
use Rattle.asl_step.specs.declared.record.Record.{Record}
use Rattle.asl_run_branches.specs.Branches.{Branch, same_place, record_at, numbered, family, branch_after, branches_after}
use Rattle.asl_run_branches.proofs.Linking.{same-eq}
use Rattle.asl_run_state.specs.World.{World, is_late, timed_out}
use Rattle.asl_run_input.specs.declared.setup.Setup.{Setup}
use Rattle.asl_run_input.specs.declared.step_at.StepAt.{StepAt}
use Rattle.asl_exec.specs.Steps.{refusal_in, moved_on, stepped, step, opening, world_after}
use Rattle.asl_exec.specs.Exchanges.{IsOneEach}
use Rattle.asl_exec_swap_laws.proofs.Apart.{same-misses}
use Rattle.asl_exec_swap_laws.proofs.Leaving.{passes}

abbrev pub at : List ℕ → List Branch → List Branch
at q bs = filter (λ b. same_place q b.place) bs

at-append : (q : List ℕ) (xs ys : List Branch) → length (at q (xs ++ ys)) ≡ length (at q xs) + length (at q ys)
at-append q xs ys = ap length (filter-append (λ b. same_place q b.place) xs ys) ∙ length-append (at q xs) (at q ys)

-- ---- new children are at places of their own

no-child : (p : List ℕ) (i : ℕ) → same_place p (p ++ i ∷ []) ≡ false
no-child [] i = refl
no-child (j ∷ p) i = and_right (j == j) (same_place p (p ++ i ∷ [])) (no-child p i)

other-child : (p : List ℕ) (i j : ℕ) → i ≢ j → same_place (p ++ i ∷ []) (p ++ j ∷ []) ≡ false
other-child [] i j d = and_left (i == j) true (ne_eqb i j d)
other-child (k ∷ p) i j d = and_right (k == k) (same_place (p ++ i ∷ []) (p ++ j ∷ [])) (other-child p i j d)

none-from : (q p : List ℕ) (i : ℕ) (rs : List Record) → ((j : ℕ) → i ≤ j → same_place q (p ++ j ∷ []) ≡ false) → at q (numbered p i rs) ≡ []
none-from q p i [] f = refl
none-from q p i (r ∷ rs) f = rw (f i (omega arith)) (none-from q p (i + 1) rs (λ j l. f j (omega (arith, l))))

numbered-one : (q p : List ℕ) (i : ℕ) (rs : List Record) → length (at q (numbered p i rs)) ≤ 1
numbered-one q p i [] = omega arith
numbered-one q p i (r ∷ rs) = by (same_place q (p ++ i ∷ [])) refl (numbered-one q p (i + 1) rs)
  where
    by : (c : Bool) → same_place q (p ++ i ∷ []) ≡ c → length (at q (numbered p (i + 1) rs)) ≤ 1 → length (at q (numbered p i (r ∷ rs))) ≤ 1
    by true e more =
        let none : at q (numbered p (i + 1) rs) ≡ [] = none-from q p (i + 1) rs (λ j l. rw (same-eq q (p ++ i ∷ []) e) (other-child p i j (λ x. omega (arith, l, x)))) in
        rw (e, none) (omega arith)
    by false e more = rw e more

most : (c : Bool) (b : Branch) (bs : List Branch) → (c ≡ true → bs ≡ []) → length bs ≤ 1 → length (cond c (b ∷ bs) bs) ≤ 1
most true b bs f l = rw (f refl) (omega arith)
most false b bs f l = l

family-one : (q p : List ℕ) (r : Record) (c : Children) → length (at q (family p r c)) ≤ 1
family-one q p r Kept = most (same_place q p) _ [] (λ e. refl) (omega arith)
family-one q p r Removed = most (same_place q p) _ [] (λ e. refl) (omega arith)
family-one q p r (Made rs) = most (same_place q p) _ (at q (numbered p 0 rs)) (λ e. rw (same-eq q p e) (none-from p p 0 rs (λ j l. no-child p j))) (numbered-one q p 0 rs)

-- ---- after a step, at q stand as many as at q before or, where the children go, as at p before

module _ (p : List ℕ) (r : Record) (c : Children) where
  all-of : (q o : List ℕ) → ((b : Branch) → length (at q (branch_after p r c b)) ≤ length (at o (b ∷ []))) → (bs : List Branch) → length (at q (branches_after p r c bs)) ≤ length (at o bs)
  all-of q o f [] = omega arith
  all-of q o f (b ∷ bs) = omega (arith, f b, all-of q o f bs, at-append q (branch_after p r c b) (branches_after p r c bs), at-append o (b ∷ []) bs)

alike : (q : List ℕ) (b d : Branch) → b.place ≡ d.place → length (at q (b ∷ [])) ≤ length (at q (d ∷ []))
alike q b d e = subst (λ x. length (at q (b ∷ [])) ≤ length (cond (same_place q x) (d ∷ []) [])) e (by (same_place q b.place))
  where
    by : (c : Bool) → length (cond c (b ∷ []) []) ≤ length (cond c (d ∷ []) [])
    by true = omega arith
    by false = omega arith

kept : (q p : List ℕ) (r : Record) (b : Branch) → length (at q (branch_after p r Kept b)) ≤ length (at q (b ∷ []))
kept q p r b = by (same_place p b.place) (is_prefix p b.place) refl
  where
    by : (s u : Bool) → same_place p b.place ≡ s → length (at q (cond s (family p r Kept) (cond (u && false) [] (b ∷ [])))) ≤ length (at q (b ∷ []))
    by true u e = alike q _ b (same-eq p b.place e)
    by false true e = omega arith
    by false false e = omega arith

gone : (q p : List ℕ) (r : Record) (c : Children) (b : Branch) → are_kept c ≡ false → is_prefix p q ≡ true → length (at q (branch_after p r c b)) ≤ length (at p (b ∷ []))
gone q p r c b k u = by (same_place p b.place) (is_prefix p b.place) refl refl
  where
    by : (s v : Bool) → same_place p b.place ≡ s → is_prefix p b.place ≡ v → length (at q (cond s (family p r c) (cond (v && not (are_kept c)) [] (b ∷ [])))) ≤ length (at p (b ∷ []))
    by true v e f = rw e (family-one q p r c)
    by false true e f = rw (k, e) (omega arith)
    by false false e f =
        let no : same_place q b.place ≡ false = false_from_ne_true (same_place q b.place) (λ t. both_ways (is_prefix p b.place) f (rw (← same-eq q b.place t) u)) in
        rw no (omega arith)

pub one-after : (p : List ℕ) (r : Record) (c : Children) (bs : List Branch) → IsOneEach bs → IsOneEach (branches_after p r c bs)
one-after p r c bs o q = by (is_prefix p q) c refl refl
  where
    by : (u : Bool) (d : Children) → is_prefix p q ≡ u → c ≡ d → length (at q (branches_after p r d bs)) ≤ 1
    by false d e f = rw (passes p r d (same_place q) bs (same-misses p q e)) (o q)
    by true Kept e f = omega (arith, all-of p r Kept q q (kept q p r) bs, o q)
    by true Removed e f = omega (arith, all-of p r Removed q p (λ b. gone q p r Removed b refl e) bs, o p)
    by true (Made rs) e f = omega (arith, all-of p r (Made rs) q p (λ b. gone q p r (Made rs) b refl e) bs, o p)

-- ---- so in each world of an execution

one-moved : (s : Setup) (w : World) (p : List ℕ) (now : ℕ) (r : Option Record) → IsOneEach w.branches → IsOneEach (moved_on s w p now r).branches
one-moved s w p now None o = o
one-moved s w p now (Some r) o = one-after p _ _ w.branches o

pub one-stepped : (s : Setup) (w : World) (p : List ℕ) (t : ℕ) → IsOneEach w.branches → IsOneEach (step s w p t).branches
unfolding step
one-stepped s w p t o =
    let P : World → Type 0 = λ u. IsOneEach u.branches in
    let now = max w.last t in
    cond_both (is_none (refusal_in s w p t)) (stepped s w p now) w P
    (λ _. cond_both (is_late now w.deadline) (timed_out now w) (moved_on s w p now (record_at p w.branches)) P (λ _. o) (λ _. one-moved s w p now (record_at p w.branches) o))
    (λ _. o)

one-later : (s : Setup) (w : World) (l : List StepAt) → IsOneEach w.branches → IsOneEach (world_after s w l).branches
one-later s w [] o = o
one-later s w (a ∷ l) o = one-later s (step s w a.place a.moment) l (one-stepped s w a.place a.moment o)

pub one-each : (s : Setup) (l : List StepAt) → IsOneEach (world_after s (opening s) l).branches
one-each s l = one-later s (opening s) l (λ p. most (same_place p []) _ [] (λ e. refl) (omega arith))
