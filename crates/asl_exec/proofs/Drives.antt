-- A driven run, step by step.
use Rattle.std.proofs.Common.{ℕ, zero, suc, ◌≡◌, ◌+◌, ◌-◌, ◌≤◌, Bool, true, false, refl, sym, ◌∙◌, ap, arith, Some, None}
use Rattle.std.specs.Prelude.{is_some, Option}
use Rattle.asl_run_branches.specs.Trees.{one_if}
use Rattle.asl_run_state.specs.World.{World}
use Rattle.asl_run_input.specs.declared.setup.Setup.{Setup}
use Rattle.asl_exec.specs.Driving.{Chosen, chosen, after, driven, driven_steps}

-- one step more
driven-next : (n : ℕ) (s : Setup) (w : World) → driven (suc n) s w ≡ after s (driven n s w) (chosen s (driven n s w))
driven-next zero s w = refl
driven-next (suc n) s w = driven-next n s (after s w (chosen s w))

steps-next : (n : ℕ) (s : Setup) (w : World) → driven_steps (suc n) s w ≡ driven_steps n s w + one_if (is_some (chosen s (driven n s w)))
steps-next zero s w = omega arith
steps-next (suc n) s w = let r = steps-next n s (after s w (chosen s w)) in omega (arith, r)

pub driven-more : (n : ℕ) (s : Setup) (w v : World) → v ≡ driven n s w → after s v (chosen s v) ≡ driven (n + 1) s w
driven-more n s w v e =
    let one : n + 1 ≡ suc n = omega arith in
    rw (one, e) (sym (driven-next n s w))

pub steps-more : (n : ℕ) (s : Setup) (w v : World) → v ≡ driven n s w → driven_steps n s w ≡ n → true ≡ is_some (chosen s v) → driven_steps (n + 1) s w ≡ n + 1
steps-more n s w v e h c =
    let one : n + 1 ≡ suc n = omega arith in
    let c' : is_some (chosen s (driven n s w)) ≡ true = rw (← e) (sym c) in
    rw one (steps-next n s w ∙ rw (h, c') one)

-- where none comes next, none comes later
nothing : (o : Option Chosen) (s : Setup) (w : World) → false ≡ is_some o → after s w o ≡ w
nothing None s w e = refl
nothing (Some x) s w e = (cc)

still : (m : ℕ) (s : Setup) (w : World) → false ≡ is_some (chosen s w) → driven m s w ≡ w
still zero s w e = refl
still (suc m) s w e = ap (driven m s) (nothing (chosen s w) s w e) ∙ still m s w e

no-steps : (m : ℕ) (s : Setup) (w : World) → false ≡ is_some (chosen s w) → driven_steps m s w ≡ 0
no-steps zero s w e = refl
no-steps (suc m) s w e =
    let n : is_some (chosen s w) ≡ false = sym e in
    rw (n, nothing (chosen s w) s w e, no-steps m s w e) refl

driven-plus : (n m : ℕ) (s : Setup) (w : World) → driven (n + m) s w ≡ driven m s (driven n s w)
driven-plus zero m s w = let z : 0 + m ≡ m = omega arith in ap (λ k. driven k s w) z
driven-plus (suc n) m s w = let z : suc n + m ≡ suc (n + m) = omega arith in ap (λ k. driven k s w) z ∙ driven-plus n m s (after s w (chosen s w))

steps-plus : (n m : ℕ) (s : Setup) (w : World) → driven_steps (n + m) s w ≡ driven_steps n s w + driven_steps m s (driven n s w)
steps-plus zero m s w = let z : 0 + m ≡ m = omega arith in ap (λ k. driven_steps k s w) z ∙ omega arith
steps-plus (suc n) m s w =
    let z : suc n + m ≡ suc (n + m) = omega arith in
    let r = steps-plus n m s (after s w (chosen s w)) in
    ap (λ k. driven_steps k s w) z ∙ omega (arith, r)

-- so a run that has stopped is as it would be at the limit
pub driven-stopped : (n limit : ℕ) (s : Setup) (w v u : World) → n ≤ limit → v ≡ driven n s w → false ≡ is_some (chosen s v) → u ≡ after s v (chosen s v) → u ≡ driven limit s w
driven-stopped n limit s w v u l e none hu =
    let z : limit ≡ n + (limit - n) = omega arith in
    hu ∙ nothing (chosen s v) s v none ∙ sym (still (limit - n) s v none) ∙ rw e (sym (driven-plus n (limit - n) s w)) ∙ ap (λ k. driven k s w) (sym z)

pub steps-stopped : (n limit : ℕ) (s : Setup) (w v : World) → n ≤ limit → v ≡ driven n s w → driven_steps n s w ≡ n → false ≡ is_some (chosen s v) → n ≡ driven_steps limit s w
steps-stopped n limit s w v l e h none =
    let z : limit ≡ n + (limit - n) = omega arith in
    let k : driven_steps (limit - n) s (driven n s w) ≡ 0 = rw (← e) (no-steps (limit - n) s v none) in
    let p = steps-plus n (limit - n) s w in
    let q : driven_steps (n + (limit - n)) s w ≡ n = omega (arith, p, k, h) in
    sym (ap (λ j. driven_steps j s w) z ∙ q)

-- ---- by the setup that stays

pub took-as : (s s' : Setup) (v : World) (b f : Bool) → s' ≡ s → b ≡ f → b ≡ is_some (chosen s' v) → f ≡ is_some (chosen s v)
took-as s s' v b f e h t = sym h ∙ t ∙ ap (λ (z : Setup). is_some (chosen z v)) e

pub after-as : (s s' : Setup) (v u : World) → s' ≡ s → u ≡ after s' v (chosen s' v) → u ≡ after s v (chosen s v)
after-as s s' v u e t = t ∙ ap (λ (z : Setup). after z v (chosen z v)) e
