-- What a step makes of branches, but for moments; and branches that wait no longer.
use Rattle.std.proofs.Common.{ℕ, ◌≡◌, ◌≤◌, ◌&&◌, ◌∙◌, Bool, true, false, not, List, [], ◌∷◌, ◌++◌, refl, sym, arith, cond, map, subst, Some}
use Rattle.std.specs.List.{flat_map}
use Rattle.std.proofs.lemmas.List.{map-append}
use Rattle.asl_history.specs.Places.{is_prefix}
use Rattle.asl_step.specs.Bounds.{are_kept}
use Rattle.asl_step.specs.declared.effect.Children.{Children}
use Rattle.asl_step.specs.declared.record.Record.{Record}
use Rattle.asl_step_reads.specs.Steps.{timeless_record}
use Rattle.asl_run_branches.specs.Branches.{Branch, same_place, record_at, made, family, branch_after, branches_after}
use Rattle.asl_exec_moment_laws.specs.Moments.{timeless_branch}
use Rattle.asl_exec_moment_laws.proofs.Until.{until_in}

-- ---- but for moments

abbrev left_of : List ℕ → Record → Children → Branch → List Branch
left_of p r c b = cond (same_place p b.place) (record { place = p; current = r } ∷ map timeless_branch (made p c)) (cond (is_prefix p b.place && not (are_kept c)) [] (b ∷ []))

one-stays : (p : List ℕ) (r : Record) (c : Children) (b : Branch) → map timeless_branch (branch_after p r c b) ≡ left_of p (timeless_record r) c (timeless_branch b)
one-stays p r c b = by (same_place p b.place) (is_prefix p b.place && not (are_kept c))
  where
    by : (t k : Bool) → map timeless_branch (cond t (family p r c) (cond k [] (b ∷ []))) ≡ cond t (record { place = p; current = timeless_record r } ∷ map timeless_branch (made p c)) (cond k [] (timeless_branch b ∷ []))
    by true k = refl
    by false true = refl
    by false false = refl

after-stays : (p : List ℕ) (r : Record) (c : Children) (bs : List Branch) → map timeless_branch (branches_after p r c bs) ≡ flat_map (left_of p (timeless_record r) c) (map timeless_branch bs)
after-stays p r c [] = refl
after-stays p r c (b ∷ bs) = map-append timeless_branch (branch_after p r c b) (branches_after p r c bs) ∙ (λ i. one-stays p r c b i ++ after-stays p r c bs i)

pub after-same : (p : List ℕ) (r q : Record) (c d : Children) (bs cs : List Branch) → timeless_record r ≡ timeless_record q → c ≡ d → map timeless_branch bs ≡ map timeless_branch cs → map timeless_branch (branches_after p r c bs) ≡ map timeless_branch (branches_after p q d cs)
after-same p r q c d bs cs e k h = after-stays p r c bs ∙ (λ i. flat_map (left_of p (e i) (k i)) (h i)) ∙ sym (after-stays p q d cs)

-- ---- branches of which none waits longer than its like

abbrev pub AreSooner : List Branch → List Branch → Type 0
AreSooner [] [] = Unit {0}
AreSooner [] (c ∷ cs) = ⊥
AreSooner (b ∷ bs) [] = ⊥
AreSooner (b ∷ bs) (c ∷ cs) = (b.place ≡ c.place) × (until_in b.current ≤ until_in c.current) × AreSooner bs cs

pub sooner-self : (bs : List Branch) → AreSooner bs bs
sooner-self [] = tt
sooner-self (b ∷ bs) = (refl, omega arith, sooner-self bs)

sooner-append : (xs bs ys cs : List Branch) → AreSooner xs bs → AreSooner ys cs → AreSooner (xs ++ ys) (bs ++ cs)
sooner-append [] [] ys cs h k = k
sooner-append [] (b ∷ bs) ys cs h k = absurd h
sooner-append (x ∷ xs) [] ys cs h k = absurd h
sooner-append (x ∷ xs) (b ∷ bs) ys cs h k = (h.0, h.1, sooner-append xs bs ys cs h.2 k)

-- at a place of the second ones there is one of the first
pub record IsThere (p : List ℕ) (bs : List Branch) (r : Record) : Type 0 where
  pub current : Record
  pub there : record_at p bs ≡ Some current
  pub sooner : until_in current ≤ until_in r

pub sooner-there : (p : List ℕ) (bs cs : List Branch) (r : Record) → AreSooner bs cs → record_at p cs ≡ Some r → IsThere p bs r
sooner-there p [] [] r h e = absurd (cc)
sooner-there p [] (c ∷ cs) r h e = absurd h
sooner-there p (b ∷ bs) [] r h e = absurd h
sooner-there p (b ∷ bs) (c ∷ cs) r h e = by (same_place p c.place) refl (sooner-there p bs cs r h.2)
  where
    by : (t : Bool) → same_place p c.place ≡ t → (record_at p cs ≡ Some r → IsThere p bs r) → IsThere p (b ∷ bs) r
    by true t more =
        let is : Some c.current ≡ Some r = rw t at e in
        let same : c.current ≡ r = cc in
        record { current = b.current; there = rw (h.0, t) refl; sooner = subst (λ (x : Record). until_in b.current ≤ until_in x) same h.1 }
    by false t more =
        let x = more (rw t at e) in
        record { current = x.current; there = rw (h.0, t) x.there; sooner = x.sooner }

one-sooner : (p : List ℕ) (q r : Record) (k : Children) (b c : Branch) → until_in q ≤ until_in r → b.place ≡ c.place → until_in b.current ≤ until_in c.current → AreSooner (branch_after p q k b) (branch_after p r k c)
one-sooner p q r k b c less e h =
    subst (λ (x : List ℕ). AreSooner (cond (same_place p x) (family p q k) (cond (is_prefix p x && not (are_kept k)) [] (b ∷ []))) (branch_after p r k c)) (sym e)
    (by (same_place p c.place) (is_prefix p c.place && not (are_kept k)))
  where
    by : (t o : Bool) → AreSooner (cond t (family p q k) (cond o [] (b ∷ []))) (cond t (family p r k) (cond o [] (c ∷ [])))
    by true o = (refl, less, sooner-self (made p k))
    by false true = tt
    by false false = (e, h, tt)

pub sooner-after : (p : List ℕ) (q r : Record) (k l : Children) (bs cs : List Branch) → until_in q ≤ until_in r → k ≡ l → AreSooner bs cs → AreSooner (branches_after p q k bs) (branches_after p r l cs)
sooner-after p q r k l bs cs less e h = rw (← e) (by bs cs h)
  where
    by : (bs cs : List Branch) → AreSooner bs cs → AreSooner (branches_after p q k bs) (branches_after p r k cs)
    by [] [] h = tt
    by [] (c ∷ cs) h = absurd h
    by (b ∷ bs) [] h = absurd h
    by (b ∷ bs) (c ∷ cs) h = sooner-append (branch_after p q k b) (branch_after p r k c) (branches_after p q k bs) (branches_after p r k cs) (one-sooner p q r k b c less h.0 h.1) (by bs cs h.2)
