-- The worlds that end an execution: what holds of those that the tried steps of branches lead to, holds of each; and what holds of all ends that come of
-- worlds that were met, holds of the end of each order.
use Rattle.std.specs.Prelude.{is_some}
use Rattle.std.proofs.Common.{ℕ, ◌≡◌, ◌≤◌, ◌⊎◌, inl, inr, ◌∙◌, ap, sym, refl, subst, arith, Bool, true, false, List, [], ◌∷◌, length, max, Option, Some, None}
use Rattle.std.specs.List.{All, AllWithin}
use Rattle.std.proofs.lemmas.List.Elements.{All-contains}
use Rattle.asl_step.specs.declared.record.Record.{Record}
use Rattle.asl_run_branches.specs.Branches.{record_at}
use Rattle.asl_run_branches.specs.Earliest.{due_from}
use Rattle.asl_run_branches.specs.declared.earliest.Earliest.{Earliest}
use Rattle.asl_run_state.specs.World.{World, is_over, is_late, timed_out}
use Rattle.asl_run_state.specs.Bare.{bare, earliest}
use Rattle.asl_run_state.specs.declared.outcome.Outcome.{Outcome}
use Rattle.asl_run_state.specs.declared.outcome.Outcome.TheVariants.{TimedOut}
use Rattle.asl_run_state.proofs.Picks.{late-accepts}
use Rattle.asl_run_input.specs.declared.setup.Setup.{Setup}
use Rattle.asl_exec.specs.Steps.{limits_in, step, opening}
use Rattle.asl_exec.proofs.Accepting.{step_late}
use Rattle.asl_explore.specs.declared.orders.Orders.{Orders}
use Rattle.asl_explore.specs.declared.orders.Orders.TheVariants.{Every, Prompt}
use Rattle.asl_explore.specs.Calls.{AllAreExpanded}
use Rattle.asl_explore.specs.Ends.{EndsIn, AreEndsIn, AllEndIn}
use Rattle.asl_explore.specs.Orders.{due_of, due, after_order, IsTried, AreTried}
use Rattle.asl_explore.specs.Searches.{IsBound, IsExpanded, IsMet, is_beyond}
use Rattle.asl_explore.proofs.Bare.{step-bare, step-over, step-nowhere}
use Rattle.asl_explore.proofs.Whole.{there, later-late, within-bound, every-unbound, nowhere-prompt, tried-bare, met-step}

late-world : (s : Setup) (w : World) (p : List ℕ) (t : ℕ) → is_over w.outcome ≡ false → is_late (max w.last t) w.deadline ≡ true → step s w p t ≡ timed_out (max w.last t) w
late-world s w p t r l = step_late s w p t (late-accepts (limits_in s.machine) w p t r l) l

pub ends-everywhere : (o : Orders) (s : Setup) (w : World) (bound : Option ℕ) (root : Record) (P : Outcome → List ℕ → Type 0) → is_over w.outcome ≡ false → record_at [] w.branches ≡ Some root → IsBound o s (bare w) bound
    → All (λ (d : Earliest). is_beyond bound d.moment ≡ false → EndsIn P (step s w d.place d.moment)) (earliest w.last w.branches) → (p : List ℕ) → IsTried o s w p → EndsIn P (step s w p (due w p))
ends-everywhere o s w bound root P runs there_is b all p tried = by (record_at p w.branches) refl
  where
    Q : Earliest → Type 0
    Q d = is_beyond bound d.moment ≡ false → EndsIn P (step s w d.place d.moment)

    some : (r : Record) → record_at p w.branches ≡ Some r → EndsIn P (step s w p (due w p))
    some r e =
        let due_is : due w p ≡ due_from w.last r = ap (due_of w.last) e in
        let inside : is_beyond bound (due_from w.last r) ≡ false = subst (λ (t : ℕ). is_beyond bound t ≡ false) due_is (within-bound o s w bound p b tried) in
        subst (λ (t : ℕ). EndsIn P (step s w p t)) (sym due_is) (there w.last p w.branches r Q all e inside)

    none : (l : Bool) → is_late (max w.last w.last) w.deadline ≡ l → is_beyond bound (due_from w.last root) ≡ false → record_at p w.branches ≡ None → EndsIn P (step s w p w.last)
    none false l inside n = subst (EndsIn P) (sym (step-nowhere s w p w.last l n)) (λ o. let x : true ≡ false = sym o ∙ runs in absurd (cc))
    none true l inside n =
        let t = due_from w.last root in
        let e = late-world s w [] t runs (later-late w.last t w.deadline l) in
        let h : EndsIn P (step s w [] t) = there w.last [] w.branches root Q all there_is inside in
        let k : P TimedOut w.counts = subst (λ (v : World). P v.outcome v.counts) e (h (ap (λ (v : World). is_over v.outcome) e)) in
        λ o. subst (λ (v : World). P v.outcome v.counts) (sym (late-world s w p w.last runs l)) k

    root-inside : (o : Orders) → IsBound o s (bare w) bound → IsTried o s w p → record_at p w.branches ≡ None → is_beyond bound (due_from w.last root) ≡ false
    root-inside Every b t n = every-unbound s (bare w) bound (due_from w.last root) b
    root-inside Prompt b t n = absurd (nowhere-prompt s w p n t)

    by : (r : Option Record) → record_at p w.branches ≡ r → EndsIn P (step s w p (due w p))
    by (Some r) e = some r e
    by None e = subst (λ (r : Option Record). EndsIn P (step s w p (due_of w.last r))) (sym e) (none (is_late (max w.last w.last) w.deadline) refl (root-inside o b tried e) e)

-- a world that is over stays
pub after-over : (s : Setup) (w : World) (ps : List (List ℕ)) → is_over w.outcome ≡ true → after_order s w ps ≡ w
after-over s w [] o = refl
after-over s w (p ∷ ps) o = ap (λ (v : World). after_order s v ps) (step-over s w p (due w p) o) ∙ after-over s w ps o

-- ---- the steps of a world that was met

-- so it is of a step, unless it is later than is tried
abbrev pub IsTurnIn : (Outcome → List ℕ → Type 0) → Setup → World → Option ℕ → Earliest → Type 0
IsTurnIn P s w bound e = is_beyond bound e.moment ≡ false → EndsIn P (step s w e.place e.moment)

pub ends-in : (P : Outcome → List ℕ → Type 0) (o : Orders) (s : Setup) (w : World) (bound : Option ℕ) (turns : List Earliest) (i : ℕ) → is_over w.outcome ≡ false → is_some (record_at [] w.branches) ≡ true → turns ≡ earliest w.last w.branches → length turns ≤ i → IsBound o s (bare w) bound
    → AllWithin (IsTurnIn P s (bare w) bound) turns 0 i → AreEndsIn P o s (bare w)
ends-in P o s w bound turns i runs root et le b h = by (record_at [] w.branches) refl
  where
    all : All (IsTurnIn P s (bare w) bound) (earliest w.last w.branches)
    all = subst (All (IsTurnIn P s (bare w) bound)) et (λ k d l. h k d (omega arith) (omega (arith, l, le)))

    by : (r : Option Record) → record_at [] w.branches ≡ r → AreEndsIn P o s (bare w)
    by (Some r) e = ends-everywhere o s (bare w) bound r P runs e b all
    by None e = let x : false ≡ true = ap is_some (sym e) ∙ root in absurd (cc)

-- ---- each order

end-step : (P : Outcome → List ℕ → Type 0) (o : Orders) (s : Setup) (ws : List World) (os : List Outcome) (w : World) (p : List ℕ) → All (AreEndsIn P o s) ws → IsTried o s w p → IsMet ws os w → is_over w.outcome ≡ false → EndsIn P (step s w p (due w p))
end-step P o s ws os w p ends tried m runs = by (step-bare s w p (due w p))
  where
    v : World
    v = step s w p (due w p)

    by : (v ≡ w) ⊎ (bare v ≡ bare (step s (bare w) p (due w p))) → EndsIn P v
    by (inl e) over = let x : true ≡ false = sym over ∙ ap (λ (z : World). is_over z.outcome) e ∙ runs in absurd (cc)
    by (inr e) over = subst (EndsIn P) (sym e) (All-contains (AreEndsIn P o s) ws (bare w) ends (m.runs runs) p (tried-bare o s w p tried)) over

end-on : (P : Outcome → List ℕ → Type 0) (s : Setup) (v : World) (ps : List (List ℕ)) (b : Bool) → is_over v.outcome ≡ b → EndsIn P v → (is_over v.outcome ≡ false → EndsIn P (after_order s v ps)) → EndsIn P (after_order s v ps)
end-on P s v ps true e here deeper = subst (EndsIn P) (sym (after-over s v ps e)) here
end-on P s v ps false e here deeper = deeper e

end-after : (P : Outcome → List ℕ → Type 0) (o : Orders) (s : Setup) (ws : List World) (os : List Outcome) (w : World) (ps : List (List ℕ)) → All (IsExpanded o s ws os) ws → All (AreEndsIn P o s) ws → AreTried o s w ps → IsMet ws os w → is_over w.outcome ≡ false → EndsIn P (after_order s w ps)
end-after P o s ws os w [] all ends tried m runs = λ over. let x : true ≡ false = sym over ∙ runs in absurd (cc)
end-after P o s ws os w (p ∷ ps) all ends tried m runs =
    let v = step s w p (due w p) in
    end-on P s v ps (is_over v.outcome) refl (end-step P o s ws os w p ends tried.0 m runs) (λ e. end-after P o s ws os v ps all ends tried.1 (met-step o s ws os w p all tried.0 m) e)

pub all-end-in : (P : Outcome → List ℕ → Type 0) (o : Orders) (s : Setup) (ws : List World) (os : List Outcome) → AllAreExpanded o s ws os → All (AreEndsIn P o s) ws → AllEndIn P o s
all-end-in P o s ws os closed ends ps tried = end-after P o s ws os (opening s) ps closed.expanded ends tried closed.begins refl
