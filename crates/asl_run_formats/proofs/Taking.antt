-- The steps that a run takes, one after another.
use Rattle.std.proofs.Common.{ℕ, zero, suc, ◌≡◌, ◌-◌, ◌+◌, ◌<◌, List, [], ◌∷◌, ◌++◌, refl, sym, ◌∙◌, ap, arith, Some, None}
use Rattle.std.proofs.lemmas.List.{append_assoc, append-nil}
use Rattle.std.specs.Prelude.{Option}
use Rattle.asl_run_state.specs.World.{World}
use Rattle.asl_run_input.specs.declared.setup.Setup.{Setup}
use Rattle.asl_run_input.specs.declared.step_at.StepAt.{StepAt}
use Rattle.asl_exec.specs.Steps.{world_after}
use Rattle.asl_exec.specs.Driving.{Chosen, chosen, after, driven}
use Rattle.asl_run_formats.specs.Taken.{step_at, taken, StepsLeadThere}

one : (o : Option Chosen) (s : Setup) (w : World) (rest : List StepAt) → world_after s w (step_at o ++ rest) ≡ world_after s (after s w o) rest
one None s w rest = refl
one (Some x) s w rest = refl

pub leads : StepsLeadThere
leads zero s w = refl
leads (suc n) s w = one (chosen s w) s w (taken n s (after s w (chosen s w))) ∙ leads n s (after s w (chosen s w))

-- ---- where none comes next, none comes later

stays : (o : Option Chosen) (s : Setup) (w : World) → None ≡ o → after s w o ≡ w
stays o s w e = sym (ap (after s w) e)

pub none_at : (o : Option Chosen) → None ≡ o → step_at o ≡ []
none_at o e = sym (ap step_at e)

pub no_more : (n : ℕ) (s : Setup) (w : World) → None ≡ chosen s w → taken n s w ≡ []
no_more zero s w e = refl
no_more (suc n) s w e = ap (λ (ss : List StepAt). ss ++ taken n s (after s w (chosen s w))) (none_at (chosen s w) e) ∙ ap (taken n s) (stays (chosen s w) s w e) ∙ no_more n s w e

still : (n : ℕ) (s : Setup) (w : World) → None ≡ chosen s w → driven n s w ≡ w
still zero s w e = refl
still (suc n) s w e = ap (driven n s) (stays (chosen s w) s w e) ∙ still n s w e

-- the steps so far are all
pub ended_steps : (m : ℕ) (s : Setup) (v : World) (ss all : List StepAt) → None ≡ chosen s v → ss ++ taken m s v ≡ all → ss ≡ all
ended_steps m s v ss all e h = sym (append-nil ss) ∙ ap (λ (x : List StepAt). ss ++ x) (sym (no_more m s v e)) ∙ h

-- and the world is where all lead
pub ended_world : (m : ℕ) (s : Setup) (v u there : World) → None ≡ chosen s v → u ≡ after s v (chosen s v) → driven m s v ≡ there → u ≡ there
ended_world m s v u there e h d = h ∙ stays (chosen s v) s v e ∙ sym (still m s v e) ∙ d

-- ---- one step of the loop: `n` of `limit` steps are taken

pub left : (n limit : ℕ) → n < limit → limit - n ≡ suc (limit - (n + 1))
left n limit l = omega (arith, l)

some_at : (o : Option Chosen) (a : StepAt) → Some (a.place, a.moment) ≡ o → step_at o ≡ a ∷ []
some_at o a e = sym (ap step_at e)

pub more_steps : (n limit : ℕ) (s s' : Setup) (v u : World) (a : StepAt) (ss all : List StepAt) → n < limit → s' ≡ s → Some (a.place, a.moment) ≡ chosen s v → u ≡ after s v (chosen s v) → ss ++ taken (limit - n) s v ≡ all → (ss ++ a ∷ []) ++ taken (limit - (n + 1)) s' u ≡ all
more_steps n limit s s' v u a ss all l same e h t =
    let first : step_at (chosen s v) ≡ a ∷ [] = some_at (chosen s v) a e in
    let there : taken (limit - (n + 1)) s' u ≡ taken (limit - (n + 1)) s (after s v (chosen s v)) = λ i. taken (limit - (n + 1)) (same i) (h i) in
    let whole : (a ∷ []) ++ taken (limit - (n + 1)) s' u ≡ taken (limit - n) s v = ap (λ (x : List StepAt). (a ∷ []) ++ x) there ∙ ap (λ (x : List StepAt). x ++ taken (limit - (n + 1)) s (after s v (chosen s v))) (sym first) ∙ sym (ap (λ k. taken k s v) (left n limit l)) in
    append_assoc ss (a ∷ []) (taken (limit - (n + 1)) s' u) ∙ ap (λ (x : List StepAt). ss ++ x) whole ∙ t

pub more_world : (n limit : ℕ) (s s' : Setup) (v u there : World) → n < limit → s' ≡ s → u ≡ after s v (chosen s v) → driven (limit - n) s v ≡ there → driven (limit - (n + 1)) s' u ≡ there
more_world n limit s s' v u there l same h d = (λ i. driven (limit - (n + 1)) (same i) (h i)) ∙ sym (ap (λ k. driven k s v) (left n limit l)) ∙ d
