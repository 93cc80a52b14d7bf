-- Branches have branches under them only while they wait for these, whatever happens at a place.
use Rattle.std.proofs.Common.{ℕ, ◌≡◌, ◌+◌, ◌==◌, ◌&&◌, Bool, true, false, not, List, [], ◌∷◌, ◌++◌, refl, sym, ◌∙◌, ap, subst, cond, append_assoc, Some}
use Rattle.std.specs.Prelude.{is_some}
use Rattle.std.proofs.lemmas.Bool.{and_parts, and_right, both_ways, false_from_ne_true, eqb-true}
use Rattle.std.proofs.lemmas.List.Elements.{filter-append}
use Rattle.std.specs.List.{filter}
use Rattle.asl_json.specs.private.SameLaws.{bytes_refl}
use Rattle.asl_history.specs.Places.{is_prefix}
use Rattle.asl_step.specs.Bounds.{is_forked, are_kept}
use Rattle.asl_step.specs.declared.effect.Children.{Children}
use Rattle.asl_step.specs.declared.effect.Children.TheVariants.{Kept, Removed, Forked as Made}
use Rattle.asl_step.specs.declared.record.Record.{Record}
use Rattle.asl_run_branches.specs.Branches.{Branch, same_place, record_at, numbered, made, family, branch_after, branches_after}
use Rattle.asl_run_branches.proofs.Linking.{same-eq}
use Rattle.asl_exec_swap_laws.proofs.Apart.{prefix-append}
use Rattle.asl_exec_swap_laws.proofs.Leaving.{record-stays}
use Rattle.asl_exec_swap_laws.proofs.Rooted.{is_joining, joins_in, joins_at, IsRooted, below}

-- ---- places

prefix-longer : (p x : List ℕ) (i : ℕ) → is_prefix p (x ++ i ∷ []) ≡ false → is_prefix p x ≡ false
prefix-longer [] x i h = h
prefix-longer (j ∷ p) [] i h = refl
prefix-longer (j ∷ p) (k ∷ x) i h = by (j == k) h (prefix-longer p x i)
  where
    by : (c : Bool) → (c && is_prefix p (x ++ i ∷ [])) ≡ false → (is_prefix p (x ++ i ∷ []) ≡ false → is_prefix p x ≡ false) → (c && is_prefix p x) ≡ false
    by true h more = more h
    by false h more = refl

-- a place at or above a child, but not above its parent, is the child
prefix-last : (p x : List ℕ) (i : ℕ) → is_prefix p (x ++ i ∷ []) ≡ true → is_prefix p x ≡ false → p ≡ x ++ i ∷ []
prefix-last [] x i h k = absurd (both_ways true k refl)
prefix-last (j ∷ []) [] i h k = λ l. eqb-true j i (and_parts (j == i) true h).0 l ∷ []
prefix-last (j ∷ m ∷ p) [] i h k = absurd (both_ways false refl (and_parts (j == i) false h).1)
prefix-last (j ∷ p) (m ∷ x) i h k =
    let a = and_parts (j == m) (is_prefix p (x ++ i ∷ [])) h in
    let e : j ≡ m = eqb-true j m a.0 in
    let d = prefix-last p x i a.1 (rw a.0 at k) in
    λ l. e l ∷ d l

same-longer : (p : List ℕ) (i : ℕ) (rest : List ℕ) → same_place (p ++ i ∷ rest) p ≡ false
same-longer [] i rest = refl
same-longer (j ∷ p) i rest = and_right (j == j) (same_place (p ++ i ∷ rest) p) (same-longer p i rest)

same-far : (p : List ℕ) (j k : ℕ) (rest : List ℕ) (m : ℕ) → same_place (p ++ j ∷ k ∷ rest) (p ++ m ∷ []) ≡ false
same-far [] j k rest m = and_right (j == m) false refl
same-far (i ∷ p) j k rest m = and_right (i == i) (same_place (p ++ j ∷ k ∷ rest) (p ++ m ∷ [])) (same-far p j k rest m)

pub one-place : (p x : List ℕ) → is_prefix p x ≡ true → is_prefix x p ≡ true → p ≡ x
one-place [] [] h k = refl
one-place [] (i ∷ x) h k = (cc)
one-place (j ∷ p) [] h k = (cc)
one-place (j ∷ p) (i ∷ x) h k =
    let a = and_parts (j == i) (is_prefix p x) h in
    let b = and_parts (i == j) (is_prefix x p) k in
    let e : j ≡ i = eqb-true j i a.0 in
    let d = one-place p x a.1 b.1 in
    λ l. e l ∷ d l

-- ---- what stands under a place afterwards

far-numbered : (p : List ℕ) (j k : ℕ) (rest : List ℕ) (i : ℕ) (rs : List Record) → filter (λ b. same_place (p ++ j ∷ k ∷ rest) b.place) (numbered p i rs) ≡ []
far-numbered p j k rest i [] = refl
far-numbered p j k rest i (r ∷ rs) = rw (same-far p j k rest i) (far-numbered p j k rest (i + 1) rs)

module _ (p : List ℕ) (r : Record) (c : Children) (y : List ℕ) (other : same_place y p ≡ false) where
  -- nothing, where branches under it don't stay and no new one is there
  nothing-under : (bs : List Branch) → is_prefix p y ≡ true → are_kept c ≡ false → filter (λ b. same_place y b.place) (made p c) ≡ [] → filter (λ b. same_place y b.place) (branches_after p r c bs) ≡ []
  nothing-under [] u k n = refl
  nothing-under (b ∷ bs) u k n = filter-append (λ b. same_place y b.place) (branch_after p r c b) (branches_after p r c bs) ∙ rw (one (same_place p b.place) (is_prefix p b.place) refl refl, nothing-under bs u k n) refl
    where
      one : (s v : Bool) → same_place p b.place ≡ s → is_prefix p b.place ≡ v → filter (λ b. same_place y b.place) (cond s (family p r c) (cond (v && not (are_kept c)) [] (b ∷ []))) ≡ []
      one true v e f = rw other n
      one false true e f = rw k refl
      one false false e f =
          let no : same_place y b.place ≡ false = false_from_ne_true (same_place y b.place) (λ s. both_ways (is_prefix p b.place) f (rw (← same-eq y b.place s) u)) in
          rw no refl

-- where they stay, what there was
kept-same : (p : List ℕ) (r : Record) (y : List ℕ) (bs : List Branch) → same_place y p ≡ false → filter (λ b. same_place y b.place) (branches_after p r Kept bs) ≡ filter (λ b. same_place y b.place) bs
kept-same p r y [] other = refl
kept-same p r y (b ∷ bs) other = filter-append (λ b. same_place y b.place) (branch_after p r Kept b) (branches_after p r Kept bs) ∙ rw (one (same_place p b.place) (is_prefix p b.place) refl, kept-same p r y bs other) refl ∙ sym (filter-append (λ b. same_place y b.place) (b ∷ []) bs)
  where
    one : (s v : Bool) → same_place p b.place ≡ s → filter (λ b. same_place y b.place) (cond s (family p r Kept) (cond (v && false) [] (b ∷ []))) ≡ filter (λ b. same_place y b.place) (b ∷ [])
    one true v e = rw (← same-eq p b.place e, other) refl
    one false true e = refl
    one false false e = refl

record-after : (p : List ℕ) (r s : Record) (c : Children) (bs : List Branch) → record_at p bs ≡ Some s → record_at p (branches_after p r c bs) ≡ Some r
record-after p r s c [] h = (cc)
record-after p r s c (b ∷ bs) h = by (same_place p b.place) (is_prefix p b.place && not (are_kept c)) refl (record-after p r s c bs)
  where
    by : (t k : Bool) → same_place p b.place ≡ t → (record_at p bs ≡ Some s → record_at p (branches_after p r c bs) ≡ Some r) → record_at p (cond t (family p r c) (cond k [] (b ∷ [])) ++ branches_after p r c bs) ≡ Some r
    by true k e more = rw (bytes_refl p) refl
    by false true e more = more (rw e at h)
    by false false e more = rw e (more (rw e at h))

-- ---- so each branch directly above another one waits for it

-- what happens at p to a record there that says so
pub record IsFit (before after : Record) (c : Children) : Type 0 where
  pub made : is_forked c ≡ true → is_joining after ≡ true
  pub kept : are_kept c ≡ true → is_joining before ≡ true → is_joining after ≡ true

module _ (p : List ℕ) (s r : Record) (bs : List Branch) (w : IsRooted bs) (there : record_at p bs ≡ Some s) where
  -- a child of p
  child : (c : Children) (i : ℕ) → IsFit s r c → is_some (record_at (p ++ i ∷ []) (branches_after p r c bs)) ≡ true → is_joining r ≡ true
  child Kept i f h = f.kept refl (rw there at (w p i (rw (kept-same p r (p ++ i ∷ []) bs (same-longer p i [])) at h)))
  child Removed i f h = let x : false ≡ true = rw (nothing-under p r Removed (p ++ i ∷ []) (same-longer p i []) bs (prefix-append p (i ∷ [])) refl refl) at h in (cc)
  child (Made rs) i f h = f.made refl

  -- a branch under a child of p
  deeper : (c : Children) (j : ℕ) (rest : List ℕ) (i : ℕ) → is_some (record_at ((p ++ j ∷ rest) ++ i ∷ []) (branches_after p r c bs)) ≡ true → joins_at (p ++ j ∷ rest) (branches_after p r c bs) ≡ true
  deeper Kept j rest i h =
      let same : (p ++ j ∷ rest) ++ i ∷ [] ≡ p ++ j ∷ (rest ++ i ∷ []) = append_assoc p (j ∷ rest) (i ∷ []) in
      let h2 : is_some (record_at (p ++ j ∷ (rest ++ i ∷ [])) (branches_after p r Kept bs)) ≡ true = rw same at h in
      let h3 : is_some (record_at (p ++ j ∷ (rest ++ i ∷ [])) bs) ≡ true = rw (kept-same p r (p ++ j ∷ (rest ++ i ∷ [])) bs (same-longer p j (rest ++ i ∷ []))) at h2 in
      rw (kept-same p r (p ++ j ∷ rest) bs (same-longer p j rest)) (w (p ++ j ∷ rest) i (rw (← same) at h3))
  deeper Removed j rest i h =
      let same : (p ++ j ∷ rest) ++ i ∷ [] ≡ p ++ j ∷ (rest ++ i ∷ []) = append_assoc p (j ∷ rest) (i ∷ []) in
      let h2 : is_some (record_at (p ++ j ∷ (rest ++ i ∷ [])) (branches_after p r Removed bs)) ≡ true = rw same at h in
      let x : false ≡ true = rw (nothing-under p r Removed (p ++ j ∷ (rest ++ i ∷ [])) (same-longer p j (rest ++ i ∷ [])) bs (prefix-append p (j ∷ (rest ++ i ∷ []))) refl refl) at h2 in absurd (cc)
  deeper (Made rs) j [] i h =
      let same : (p ++ j ∷ []) ++ i ∷ [] ≡ p ++ j ∷ i ∷ [] = append_assoc p (j ∷ []) (i ∷ []) in
      let h2 : is_some (record_at (p ++ j ∷ i ∷ []) (branches_after p r (Made rs) bs)) ≡ true = rw same at h in
      let x : false ≡ true = rw (nothing-under p r (Made rs) (p ++ j ∷ i ∷ []) (same-longer p j (i ∷ [])) bs (prefix-append p (j ∷ i ∷ [])) refl (far-numbered p j i [] 0 rs)) at h2 in absurd (cc)
  deeper (Made rs) j (k ∷ rest) i h =
      let same : (p ++ j ∷ k ∷ rest) ++ i ∷ [] ≡ p ++ j ∷ k ∷ (rest ++ i ∷ []) = append_assoc p (j ∷ k ∷ rest) (i ∷ []) in
      let h2 : is_some (record_at (p ++ j ∷ k ∷ (rest ++ i ∷ [])) (branches_after p r (Made rs) bs)) ≡ true = rw same at h in
      let x : false ≡ true = rw (nothing-under p r (Made rs) (p ++ j ∷ k ∷ (rest ++ i ∷ [])) (same-longer p j (k ∷ (rest ++ i ∷ []))) bs (prefix-append p (j ∷ k ∷ (rest ++ i ∷ []))) refl (far-numbered p j k (rest ++ i ∷ []) 0 rs)) at h2 in absurd (cc)

  pub rooted-after : (c : Children) → IsFit s r c → (x : List ℕ) (i : ℕ) → is_some (record_at (x ++ i ∷ []) (branches_after p r c bs)) ≡ true → joins_at x (branches_after p r c bs) ≡ true
  rooted-after c f x i h = by (is_prefix p (x ++ i ∷ [])) (is_prefix p x) (is_prefix x p) refl refl refl
    where
      at-child : is_prefix p (x ++ i ∷ []) ≡ true → is_prefix p x ≡ false → joins_at x bs ≡ true
      at-child u v = w x i (subst (λ (z : List ℕ). is_some (record_at z bs) ≡ true) (prefix-last p x i u v) (rw there refl))

      at-self : p ≡ x → joins_at x (branches_after p r c bs) ≡ true
      at-self e =
          let h2 : is_some (record_at (p ++ i ∷ []) (branches_after p r c bs)) ≡ true = subst (λ (z : List ℕ). is_some (record_at (z ++ i ∷ []) (branches_after p r c bs)) ≡ true) (sym e) h in
          subst (λ (z : List ℕ). joins_at z (branches_after p r c bs) ≡ true) e (ap joins_in (record-after p r s c bs there) ∙ child c i f h2)

      under-it : (j : ℕ) × ((rest : List ℕ) × (x ≡ p ++ j ∷ rest)) → joins_at x (branches_after p r c bs) ≡ true
      under-it d =
          let h2 : is_some (record_at ((p ++ d.0 ∷ d.1.0) ++ i ∷ []) (branches_after p r c bs)) ≡ true = subst (λ (z : List ℕ). is_some (record_at (z ++ i ∷ []) (branches_after p r c bs)) ≡ true) d.1.1 h in
          subst (λ (z : List ℕ). joins_at z (branches_after p r c bs) ≡ true) (sym d.1.1) (deeper c d.0 d.1.0 i h2)

      by : (u v z : Bool) → is_prefix p (x ++ i ∷ []) ≡ u → is_prefix p x ≡ v → is_prefix x p ≡ z → joins_at x (branches_after p r c bs) ≡ true
      by false v z eu ev ez = rw (record-stays p r c x bs (prefix-longer p x i eu)) (w x i (rw (record-stays p r c (x ++ i ∷ []) bs eu) at h))
      by true false z eu ev ez = rw (record-stays p r c x bs ev) (at-child eu ev)
      by true true true eu ev ez = at-self (one-place p x ev ez)
      by true true false eu ev ez = under-it (below p x ev ez)
