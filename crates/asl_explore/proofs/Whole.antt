-- A search that expanded each world that it met left out nothing.
use Rattle.std.specs.Prelude.{is_some}
use Rattle.std.proofs.Common.{ℕ, ◌≡◌, ◌≤◌, ◌⊎◌, inl, inr, ◌∙◌, ap, sym, refl, subst, arith, Bool, true, false, List, [], ◌∷◌, max, Option, Some, None}
use Rattle.std.specs.List.{All, Contains}
use Rattle.std.proofs.lemmas.List.Elements.{All-contains, All-head, All-tail}
use Rattle.asl_step.specs.declared.record.Record.{Record}
use Rattle.asl_run_branches.specs.Branches.{Branch, record_at, same_place}
use Rattle.asl_run_branches.proofs.Linking.{same-eq}
use Rattle.asl_run_state.specs.World.{World, is_over, is_late}
use Rattle.asl_run_state.specs.declared.outcome.Outcome.{Outcome}
use Rattle.asl_run_state.specs.declared.outcome.Outcome.TheVariants.{TimedOut}
use Rattle.asl_run_input.specs.declared.setup.Setup.{Setup}
use Rattle.asl_exec.specs.Steps.{limits_in, step, opening}
use Rattle.asl_exec.proofs.Accepting.{step_late}
use Rattle.asl_run_state.proofs.Picks.{late-accepts}
use Rattle.std.proofs.lemmas.Bool.Decides.{nat_tests}
use Rattle.asl_explore.specs.declared.orders.Orders.{Orders}
use Rattle.asl_explore.specs.declared.orders.Orders.TheVariants.{Every, Prompt}
use Rattle.asl_explore.specs.Orders.{due_of, due, after_order, IsTried, AreTried, IsWhole}
use Rattle.asl_run_branches.specs.Earliest.{due_from}
use Rattle.asl_explore.specs.Searches.{IsMet, IsExpanded, IsBound, is_beyond}
use Rattle.asl_run_state.specs.Bare.{bare, earliest}
use Rattle.asl_run_branches.specs.declared.earliest.Earliest.{Earliest}
use Rattle.asl_explore.proofs.Bare.{step-bare, step-over, step-nowhere}

-- ---- what holds of a world holds of one that differs in its history alone

pub met-alike : (ws : List World) (os : List Outcome) (u v : World) → bare u ≡ bare v → IsMet ws os u → IsMet ws os v
met-alike ws os u v e m = record {
  ends = λ o. subst (Contains os) (ap (λ (w : World). w.outcome) e) (m.ends (ap (λ (w : World). is_over w.outcome) e ∙ o));
  runs = λ r. subst (Contains ws) e (m.runs (ap (λ (w : World). is_over w.outcome) e ∙ r));
}

pub met-same : (ws : List World) (os : List Outcome) (u v : World) → u ≡ v → IsMet ws os v → IsMet ws os u
met-same ws os u v e m = subst (IsMet ws os) (sym e) m

-- ---- so each order that is tried leads to a world that is met

pub tried-bare : (o : Orders) (s : Setup) (w : World) (p : List ℕ) → IsTried o s w p → IsTried o s (bare w) p
tried-bare Every s w p t = t
tried-bare Prompt s w p t = t

pub met-step : (o : Orders) (s : Setup) (ws : List World) (os : List Outcome) (w : World) (p : List ℕ) → All (IsExpanded o s ws os) ws → IsTried o s w p → IsMet ws os w → IsMet ws os (step s w p (due w p))
met-step o s ws os w p all tried m = by (is_over w.outcome) refl
  where
    split : is_over w.outcome ≡ false → (step s w p (due w p) ≡ w) ⊎ (bare (step s w p (due w p)) ≡ bare (step s (bare w) p (due w p))) → IsMet ws os (step s w p (due w p))
    split r (inl e) = met-same ws os (step s w p (due w p)) w e m
    split r (inr e) = met-alike ws os (step s (bare w) p (due w p)) (step s w p (due w p)) (sym e) (All-contains (IsExpanded o s ws os) ws (bare w) all (m.runs r) p (tried-bare o s w p tried))

    by : (b : Bool) → is_over w.outcome ≡ b → IsMet ws os (step s w p (due w p))
    by true e = met-same ws os (step s w p (due w p)) w (step-over s w p (due w p) e) m
    by false r = split r (step-bare s w p (due w p))

pub met-after : (o : Orders) (s : Setup) (ws : List World) (os : List Outcome) (w : World) (ps : List (List ℕ)) → All (IsExpanded o s ws os) ws → AreTried o s w ps → IsMet ws os w → IsMet ws os (after_order s w ps)
met-after o s ws os w [] all tried m = m
met-after o s ws os w (p ∷ ps) all tried m = met-after o s ws os (step s w p (due w p)) ps all tried.1 (met-step o s ws os w p all tried.0 m)

pub closed-whole : (o : Orders) (s : Setup) (ws : List World) (os : List Outcome) → IsMet ws os (opening s) → All (IsExpanded o s ws os) ws → IsWhole o s os
closed-whole o s ws os m all ps tried e = (met-after o s ws os (opening s) ps all tried m).ends e

-- ---- the steps that are tried are enough

-- the step at a place where a branch is, is among them
one-there : (last : ℕ) (p : List ℕ) (b : Branch) (bs : List Branch) (r : Record) (P : Earliest → Type 0) (c : Bool) → same_place p b.place ≡ c → All P (earliest last (b ∷ bs)) → record_at p (b ∷ bs) ≡ Some r → (record_at p bs ≡ Some r → P (record { place = p; moment = due_from last r })) → P (record { place = p; moment = due_from last r })
one-there last p b bs r P true c all e deeper =
    let q : p ≡ b.place = same-eq p b.place c in
    let x : Some b.current ≡ Some r = rw c at e in
    let y : b.current ≡ r = cc in
    let h : P (record { place = b.place; moment = due_from last b.current }) = All-head P (record { place = b.place; moment = due_from last b.current }) (earliest last bs) all in
    subst (λ (z : List ℕ). P (record { place = z; moment = due_from last r })) (sym q) (subst (λ (z : Record). P (record { place = b.place; moment = due_from last z })) y h)
one-there last p b bs r P false c all e deeper = deeper (rw c at e)

pub there : (last : ℕ) (p : List ℕ) (bs : List Branch) (r : Record) (P : Earliest → Type 0) → All P (earliest last bs) → record_at p bs ≡ Some r → P (record { place = p; moment = due_from last r })
there last p [] r P all e = (cc)
there last p (b ∷ bs) r P all e = one-there last p b bs r P (same_place p b.place) refl all e (there last p bs r P (All-tail P (record { place = b.place; moment = due_from last b.current }) (earliest last bs) all))

-- a step for which it is too late
late-ends : (s : Setup) (w : World) (p : List ℕ) (t : ℕ) → is_over w.outcome ≡ false → is_late (max w.last t) w.deadline ≡ true → (step s w p t).outcome ≡ TimedOut
late-ends s w p t r l = ap (λ (v : World). v.outcome) (step_late s w p t (late-accepts (limits_in s.machine) w p t r l) l)

pub later-late : (last t : ℕ) (d : Option ℕ) → is_late (max last last) d ≡ true → is_late (max last t) d ≡ true
later-late last t None h = (cc)
later-late last t (Some d) h = grind (arith, nat_tests, h)

met-by : (ws : List World) (os : List Outcome) (v : World) → v.outcome ≡ TimedOut → Contains os TimedOut → IsMet ws os v
met-by ws os v e c = record {
  ends = λ o. subst (Contains os) (sym e) c;
  runs = λ r. let x : true ≡ false = sym (ap is_over e) ∙ r in (cc);
}

-- what is tried isn't beyond the moment at which a branch may step
pub within-bound : (o : Orders) (s : Setup) (w : World) (bound : Option ℕ) (p : List ℕ) → IsBound o s (bare w) bound → IsTried o s w p → is_beyond bound (due w p) ≡ false
within-bound o s w None p b tried = refl
within-bound Every s w (Some m) p b tried = let e : Every ≡ Prompt = b.0 in absurd (cc)
within-bound Prompt s w (Some m) p b tried =
    let q = b.1.place in
    let le : due w p ≤ due w q = tried.1 q b.1.may in
    let e : due w q ≡ m = b.1.due_is in
    let l : due w p ≤ m = omega (arith, le, e) in
    grind (arith, nat_tests, l)

pub every-unbound : (s : Setup) (w : World) (bound : Option ℕ) (t : ℕ) → IsBound Every s w bound → is_beyond bound t ≡ false
every-unbound s w None t b = refl
every-unbound s w (Some m) t b = let e : Every ≡ Prompt = b.0 in absurd (cc)

pub nowhere-prompt : (s : Setup) (w : World) (p : List ℕ) → record_at p w.branches ≡ None → IsTried Prompt s w p → ⊥
nowhere-prompt s w p n tried =
    let here : is_some (record_at p w.branches) ≡ true = tried.0.0 in
    let x : false ≡ true = ap is_some (sym n) ∙ here in absurd (cc)

pub expanded : (o : Orders) (s : Setup) (ws : List World) (os : List Outcome) (w : World) (bound : Option ℕ) (root : Record) → is_over w.outcome ≡ false → Contains ws (bare w) → record_at [] w.branches ≡ Some root → IsBound o s (bare w) bound
    → All (λ (d : Earliest). is_beyond bound d.moment ≡ false → IsMet ws os (step s w d.place d.moment)) (earliest w.last w.branches) → IsExpanded o s ws os w
expanded o s ws os w bound root runs here there_is b all p tried = by (record_at p w.branches) refl
  where
    P : Earliest → Type 0
    P d = is_beyond bound d.moment ≡ false → IsMet ws os (step s w d.place d.moment)

    some : (r : Record) → record_at p w.branches ≡ Some r → IsMet ws os (step s w p (due w p))
    some r e =
        let due_is : due w p ≡ due_from w.last r = ap (due_of w.last) e in
        let inside : is_beyond bound (due_from w.last r) ≡ false = subst (λ (t : ℕ). is_beyond bound t ≡ false) due_is (within-bound o s w bound p b tried) in
        subst (λ (t : ℕ). IsMet ws os (step s w p t)) (sym due_is) (there w.last p w.branches r P all e inside)

    none : (l : Bool) → is_late (max w.last w.last) w.deadline ≡ l → is_beyond bound (due_from w.last root) ≡ false → record_at p w.branches ≡ None → IsMet ws os (step s w p w.last)
    none false l inside n = subst (IsMet ws os) (sym (step-nowhere s w p w.last l n)) (record { ends = λ o. let x : true ≡ false = sym o ∙ runs in (cc); runs = λ r. here })
    none true l inside n =
        let t = due_from w.last root in
        let m : IsMet ws os (step s w [] t) = there w.last [] w.branches root P all there_is inside in
        let e : (step s w [] t).outcome ≡ TimedOut = late-ends s w [] t runs (later-late w.last t w.deadline l) in
        let c : Contains os TimedOut = subst (Contains os) e (m.ends (ap is_over e)) in
        met-by ws os (step s w p w.last) (late-ends s w p w.last runs l) c

    root-inside : (o : Orders) → IsBound o s (bare w) bound → IsTried o s w p → record_at p w.branches ≡ None → is_beyond bound (due_from w.last root) ≡ false
    root-inside Every b t n = every-unbound s (bare w) bound (due_from w.last root) b
    root-inside Prompt b t n = absurd (nowhere-prompt s w p n t)

    by : (r : Option Record) → record_at p w.branches ≡ r → IsMet ws os (step s w p (due w p))
    by (Some r) e = some r e
    by None e = subst (λ (r : Option Record). IsMet ws os (step s w p (due_of w.last r))) (sym e) (none (is_late (max w.last w.last) w.deadline) refl (root-inside o b tried e) e)
