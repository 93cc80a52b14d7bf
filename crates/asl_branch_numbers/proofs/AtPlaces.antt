-- What is read at the place of a branch, where branches are in the order of their places.
use Rattle.std.proofs.Common.{ℕ, suc, zero, ◌≡◌, ◌<◌, ◌∙◌, ◌==◌, ◌&&◌, ◌||◌, Bool, true, false, List, [], ◌∷◌, refl, sym, ap, subst, arith, map, length, get_or, Option, Some, None}
use Rattle.std.specs.Prelude.{nat_lt, option_map, slice_get}
use Rattle.std.specs.List.{AllByRecursion}
use Rattle.std.proofs.lemmas.Bool.{and_from, both_ways, eq-eqb, false_from_ne_true}
use Rattle.std.proofs.lemmas.Grind.{common_steps}
use Rattle.std.proofs.lemmas.Option.{get_or_from_slice_get, slice_get_within}
use Rattle.asl_step.specs.declared.record.Record.{Record}
use Rattle.asl_run_branches.specs.declared.earliest.Earliest.{Earliest}
use Rattle.asl_run_branches.specs.Branches.{Branch, same_place, record_at}
use Rattle.asl_run_branches.specs.Orders.{is_before, IsBeforeAll, AreInOrder}
use Rattle.asl_run_branches.proofs.Linking.{same-eq}
use Rattle.asl_run_state.specs.Bare.{earliest}
use Rattle.asl_branch_numbers.specs.Numbers.{branch_at}

abbrev pub places : List Branch → List (List ℕ)
places bs = map (λ b. b.place) bs

same-self : (p : List ℕ) → same_place p p ≡ true
same-self [] = refl
same-self (x ∷ p) = and_from _ _ (eq-eqb x x refl) (same-self p)

before-self : (p : List ℕ) → is_before p p ≡ false
before-self [] = refl
before-self (x ∷ p) = by (nat_lt x x) (x == x) (is_before p p) (grind (arith, common_steps)) (before-self p)
  where
    by : (l e b : Bool) → l ≡ false → b ≡ false → (l || (e && b)) ≡ false
    by true e b h k = (cc)
    by false e true h k = (cc)
    by false true false h k = refl
    by false false false h k = refl

not-same : (p q : List ℕ) → is_before p q ≡ true → same_place q p ≡ false
not-same p q h = false_from_ne_true (same_place q p) (λ s. both_ways (is_before p p) (before-self p) (subst (λ z. is_before p z ≡ true) (same-eq q p s) h))

before-at : (p : List ℕ) (bs : List Branch) (k : ℕ) (d : Branch) → IsBeforeAll p (places bs) → k < length bs → is_before p (get_or bs k d).place ≡ true
before-at p [] k d h l = absurd (omega arith)
before-at p (b ∷ bs) zero d h l = h.0
before-at p (b ∷ bs) (suc k) d h l = before-at p bs k d h.1 (omega arith)

read-there : (bs : List Branch) (k : ℕ) (d : Branch) → AreInOrder (places bs) → k < length bs → record_at (get_or bs k d).place bs ≡ Some (get_or bs k d).current
read-there [] k d o l = absurd (omega arith)
read-there (b ∷ bs) zero d o l = rw (same-self b.place) refl
read-there (b ∷ bs) (suc k) d o l = rw (not-same b.place (get_or bs k d).place (before-at b.place bs k d o.0 (omega arith))) (read-there bs k d o.1 (omega arith))

-- at its place stands a branch itself
pub branch-there : (bs : List Branch) (k : ℕ) (b : Branch) → AreInOrder (places bs) → slice_get bs k ≡ Some b → branch_at b.place bs ≡ Some b
branch-there bs k b o h =
    let same : get_or bs k b ≡ b = get_or_from_slice_get bs k b b h in
    let read : record_at b.place bs ≡ Some b.current = subst (λ (z : Branch). record_at z.place bs ≡ Some z.current) same (read-there bs k b o (slice_get_within bs k b h)) in
    ap (option_map (λ (r : Record). record { place = b.place; current = r })) read

-- a branch, and the moment from which on it may step, are at one place
pub turn-of : (last : ℕ) (bs : List Branch) (k : ℕ) (e : Earliest) → k < length (earliest last bs) → e ≡ get_or (earliest last bs) k e → (b : Branch) × ((slice_get bs k ≡ Some b) × (e.place ≡ b.place))
turn-of last [] k e l h = absurd (omega arith)
turn-of last (b ∷ bs) zero e l h = (b, (refl, ap (λ (z : Earliest). z.place) h))
turn-of last (b ∷ bs) (suc k) e l h = turn-of last bs k e (omega arith) h
