-- Every order of at most so many steps was tried, where each world was that fewer steps lead to.
use Rattle.std.proofs.Common.{ℕ, ◌≡◌, ◌<◌, ◌≤◌, ◌+◌, ◌⊎◌, inl, inr, ◌++◌, ◌∙◌, ap, sym, refl, subst, arith, Bool, true, false, List, [], ◌∷◌, length, get_or, Option, Some, None}
use Rattle.std.specs.Prelude.{nat_eq, IfSome}
use Rattle.std.proofs.lemmas.List.{length-append, get_or_default}
use Rattle.std.proofs.lemmas.Bool.Decides.{nat_tests}
use Rattle.asl_run_state.specs.World.{World, is_over}
use Rattle.asl_run_state.specs.Bare.{bare}
use Rattle.asl_run_state.specs.declared.outcome.Outcome.{Outcome}
use Rattle.asl_run_input.specs.declared.setup.Setup.{Setup}
use Rattle.asl_exec.specs.Steps.{opening, step}
use Rattle.asl_explore.specs.declared.orders.Orders.{Orders}
use Rattle.asl_explore.specs.declared.orders.Orders.TheVariants.{Every}
use Rattle.asl_explore.specs.declared.search.Level.{Level}
use Rattle.asl_explore.specs.Orders.{due, after_order, IsTried, AreTried, IsWholeTo}
use Rattle.asl_explore.specs.Searches.{IsMet, IsExpanded, AreTakenOn, IsLater}
use Rattle.asl_explore.proofs.Bare.{step-bare, step-over}
use Rattle.asl_explore.proofs.Ending.{taken-expanded}
use Rattle.asl_explore.proofs.Growing.{met-later, later-at}
use Rattle.asl_explore.proofs.Whole.{met-alike, met-same}

-- a world is met; while it runs, as one of a number below this
pub record IsMetBefore (end : ℕ) (ws : List World) (os : List Outcome) (w : World) : Type 0 where
  pub met : IsMet ws os w
  pub before : is_over w.outcome ≡ false → (i : ℕ) × ((i < end) × ((d : World) → get_or ws i d ≡ bare w))

-- so is each world to which at most so many steps lead
abbrev pub IsDeep : Orders → Setup → List World → List Outcome → Level → Type 0
IsDeep o s ws os v = (ps : List (List ℕ)) → length ps ≤ v.depth → AreTried o s (opening s) ps → IsMetBefore v.end ws os (after_order s (opening s) ps)

-- ---- orders by their last step

pub record IsBehind (ps : List (List ℕ)) : Type 0 where
  pub front : List (List ℕ)
  pub last : List ℕ
  pub whole : ps ≡ front ++ last ∷ []

by-last : (ps : List (List ℕ)) → (ps ≡ []) ⊎ IsBehind ps
by-last [] = inl refl
by-last (p ∷ ps) = by (by-last ps)
  where
    by : (ps ≡ []) ⊎ IsBehind ps → (p ∷ ps ≡ []) ⊎ IsBehind (p ∷ ps)
    by (inl e) = inr (record { front = []; last = p; whole = ap (λ (qs : List (List ℕ)). p ∷ qs) e })
    by (inr b) = inr (record { front = p ∷ b.front; last = b.last; whole = ap (λ (qs : List (List ℕ)). p ∷ qs) b.whole })

after-last : (s : Setup) (w : World) (ps : List (List ℕ)) (p : List ℕ) → after_order s w (ps ++ p ∷ []) ≡ step s (after_order s w ps) p (due (after_order s w ps) p)
after-last s w [] p = refl
after-last s w (q ∷ ps) p = after-last s (step s w q (due w q)) ps p

tried-last : (o : Orders) (s : Setup) (w : World) (ps : List (List ℕ)) (p : List ℕ) → AreTried o s w (ps ++ p ∷ []) → AreTried o s w ps × IsTried o s (after_order s w ps) p
tried-last o s w [] p tried = (tt, tried.0)
tried-last o s w (q ∷ ps) p tried =
    let x = tried-last o s (step s w q (due w q)) ps p tried.1 in
    ((tried.0, x.0), x.1)

-- ---- one step further

before-later : (ws vs : List World) (os us : List Outcome) (end : ℕ) (w : World) → end ≤ length ws → IsLater ws os vs us → IsMetBefore end ws os w → IsMetBefore end vs us w
before-later ws vs os us end w le l m = record {
  met = met-later ws vs os us w l m.met;
  before = λ r.
      let x = m.before r in
      let lt = x.1.0 in
      (x.0, (lt, λ d. later-at ws vs os us x.0 d l (omega (arith, lt, le)) ∙ x.1.1 d));
}

deep-later : (o : Orders) (s : Setup) (ws vs : List World) (os us : List Outcome) (v : Level) → v.end ≤ length ws → IsLater ws os vs us → IsDeep o s ws os v → IsDeep o s vs us v
deep-later o s ws vs os us v le l deep ps short tried = before-later ws vs os us v.end (after_order s (opening s) ps) le l (deep ps short tried)

-- a world that is met is so as one of all
met-before : (ws : List World) (os : List Outcome) (end : ℕ) (w : World) → length ws ≤ end → IsMet ws os w → IsMetBefore end ws os w
met-before ws os end w le m = record {
  met = m;
  before = λ r.
      let c = m.runs r in
      let lt = c.1 in
      (c.0, (omega (arith, lt, le), λ d. get_or_default ws c.0 d (bare w) lt ∙ c.2));
}

module _ (s : Setup) (ws : List World) (os : List Outcome) (end : ℕ) (taken : AreTakenOn Every s ws os end) where
  step-met : (w : World) (p : List ℕ) → IsMetBefore end ws os w → IsMet ws os (step s w p (due w p))
  step-met w p m = by (is_over w.outcome) refl
    where
      expanded : (r : is_over w.outcome ≡ false) → IsMet ws os (step s (bare w) p (due w p))
      expanded r =
          let x = m.before r in
          let e : IsExpanded Every s ws os (get_or ws x.0 (bare w)) = taken-expanded Every s ws os x.0 (get_or ws x.0 (bare w)) refl (taken x.0 x.1.0 (bare w)) in
          subst (λ (z : World). IsExpanded Every s ws os z) (x.1.1 (bare w)) e p tt

      split : is_over w.outcome ≡ false → (step s w p (due w p) ≡ w) ⊎ (bare (step s w p (due w p)) ≡ bare (step s (bare w) p (due w p))) → IsMet ws os (step s w p (due w p))
      split r (inl e) = met-same ws os (step s w p (due w p)) w e m.met
      split r (inr e) = met-alike ws os (step s (bare w) p (due w p)) (step s w p (due w p)) (sym e) (expanded r)

      by : (b : Bool) → is_over w.outcome ≡ b → IsMet ws os (step s w p (due w p))
      by true e = met-same ws os (step s w p (due w p)) w (step-over s w p (due w p) e) m.met
      by false r = split r (step-bare s w p (due w p))

  deep-next : (depth next : ℕ) → length ws ≤ next → IsMet ws os (opening s) → IsDeep Every s ws os (record { depth = depth; end = end }) → IsDeep Every s ws os (record { depth = depth + 1; end = next })
  deep-next depth next le begins deep ps short tried = by (by-last ps)
    where
      by : (ps ≡ []) ⊎ IsBehind ps → IsMetBefore next ws os (after_order s (opening s) ps)
      by (inl e) = subst (λ (qs : List (List ℕ)). IsMetBefore next ws os (after_order s (opening s) qs)) (sym e) (met-before ws os next (opening s) le begins)
      by (inr b) =
          let both = tried-last Every s (opening s) b.front b.last (subst (AreTried Every s (opening s)) b.whole tried) in
          let long = ap (length {A = List ℕ}) b.whole in
          let more = length-append b.front (b.last ∷ []) in
          let m = deep b.front (omega (arith, long, more, short)) both.0 in
          let w : World = after_order s (opening s) b.front in
          subst (IsMetBefore next ws os) (sym (ap (after_order s (opening s)) b.whole ∙ after-last s (opening s) b.front b.last))
          (met-before ws os next (step s w b.last (due w b.last)) le (step-met w b.last m))

level-is : (x : Level) (depth end : ℕ) → x.depth ≡ depth → x.end ≡ end → record { depth = depth; end = end } ≡ x
level-is x depth end e f = λ i. record { depth = (sym e) i; end = (sym f) i }

-- the level behind the one that was tried wholly; the same one until then
pub level-more : (o : Orders) (s : Setup) (ws vs : List World) (os us : List Outcome) (number met : ℕ) (v x : Level)
    → v.end ≤ length ws → IsLater ws os vs us → length vs ≡ met → IsMet vs us (opening s) → AreTakenOn o s vs us number
    → (nat_eq number v.end ≡ false → x ≡ v) → (nat_eq number v.end ≡ true → (x.depth ≡ v.depth + 1) × (x.end ≡ met)) → o ≡ Every → IsDeep o s ws os v → IsDeep o s vs us x
level-more o s ws vs os us number met v x le l long begins taken same next every deep = by (nat_eq number v.end) refl
  where
    kept : IsDeep o s vs us v
    kept = deep-later o s ws vs os us v le l deep

    further : (number ≡ v.end) → (x.depth ≡ v.depth + 1) × (x.end ≡ met) → IsDeep o s vs us x
    further at e = subst (λ (z : Orders). IsDeep z s vs us x) (sym every) (
        subst (IsDeep Every s vs us) (level-is x (v.depth + 1) met e.0 e.1) (
        deep-next s vs us v.end (subst (λ (z : Orders). AreTakenOn z s vs us v.end) every (subst (AreTakenOn o s vs us) at taken)) v.depth met (omega (arith, long)) begins
        (subst (λ (z : Orders). IsDeep z s vs us v) every kept)
        )
        )

    by : (b : Bool) → nat_eq number v.end ≡ b → IsDeep o s vs us x
    by true e = further (grind (arith, nat_tests, e)) (next e)
    by false e = subst (IsDeep o s vs us) (sym (same e)) kept

-- at the beginning no step is taken
pub level-first : (o : Orders) (s : Setup) (ws : List World) (os : List Outcome) (v : Level) → length ws ≤ v.end → v.depth ≡ 0 → IsMet ws os (opening s) → IsDeep o s ws os v
level-first o s ws os v le none begins [] short tried = met-before ws os v.end (opening s) le begins
level-first o s ws os v le none begins (p ∷ ps) short tried = absurd (omega (arith, short, none))

-- so an outcome of so few steps is listed
pub depth-told : (o : Orders) (s : Setup) (ws : List World) (os : List Outcome) (v : Level) (whole : Bool) (x : Option ℕ) → (o ≡ Every → whole ≡ true → IsDeep o s ws os v) → IfSome x (λ d. (o ≡ Every) × ((whole ≡ true) × (d ≡ v.depth))) → IfSome x (λ d. (o ≡ Every) × IsWholeTo d o s os)
depth-told o s ws os v whole None deep h = tt
depth-told o s ws os v whole (Some d) deep h =
    (h.0, subst (λ (n : ℕ). IsWholeTo n o s os) (sym h.1.1) (λ ps short tried over. (deep h.0 h.1.0 ps short tried).met.ends over))

-- ---- the numbers of a level

pub level-depth : (number : ℕ) (v x : Level) (met : ℕ) → v.depth + 1 ≤ number → (nat_eq number v.end ≡ false → x ≡ v) → (nat_eq number v.end ≡ true → (x.depth ≡ v.depth + 1) × (x.end ≡ met)) → x.depth ≤ number
level-depth number v x met le same next = by (nat_eq number v.end) refl
  where
    by : (b : Bool) → nat_eq number v.end ≡ b → x.depth ≤ number
    by true e = let d = (next e).0 in omega (arith, d, le)
    by false e = let d = ap (λ (y : Level). y.depth) (same e) in omega (arith, d, le)

pub level-end : (number long : ℕ) (v x : Level) (met : ℕ) → v.end ≤ long → met ≤ long → (nat_eq number v.end ≡ false → x ≡ v) → (nat_eq number v.end ≡ true → (x.depth ≡ v.depth + 1) × (x.end ≡ met)) → x.end ≤ long
level-end number long v x met le lm same next = by (nat_eq number v.end) refl
  where
    by : (b : Bool) → nat_eq number v.end ≡ b → x.end ≤ long
    by true e = let d = (next e).1 in omega (arith, d, lm)
    by false e = let d = ap (λ (y : Level). y.end) (same e) in omega (arith, d, le)
