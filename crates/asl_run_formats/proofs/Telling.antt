-- The lines of the steps that a run takes, one after another.
use Rattle.std.proofs.Common.{ℕ, ◌≡◌, ◌-◌, ◌+◌, ◌<◌, List, ◌++◌, refl, sym, ◌∙◌, ap, Some, None, append_assoc}
use Rattle.std.proofs.lemmas.List.{append-nil}
use Rattle.std.specs.Prelude.{Option}
use Rattle.asl_run_state.specs.World.{World}
use Rattle.asl_run_input.specs.declared.setup.Setup.{Setup}
use Rattle.asl_run_input.specs.declared.step_at.StepAt.{StepAt}
use Rattle.asl_exec.specs.Steps.{facts_of, step}
use Rattle.asl_exec.specs.Driving.{Chosen, chosen, after}
use Rattle.asl_trace.specs.declared.tree.Shows.{Shows}
use Rattle.asl_trace.specs.Steps.{lines_of_step, tree_lines}
use Rattle.asl_run_formats.specs.Taken.{step_at, taken}
use Rattle.asl_run_formats.proofs.Taking.{none_at, no_more, left}

-- ---- steps that come next

one_text : (sh : Shows) (o : Option Chosen) (s : Setup) (w : World) (rest : List StepAt) → tree_lines sh s w (step_at o ++ rest) ≡ tree_lines sh s w (step_at o) ++ tree_lines sh s (after s w o) rest
one_text sh None s w rest = refl
one_text sh (Some x) s w rest = ap (λ (l : List ℕ). l ++ tree_lines sh s (step s w x.0 x.1) rest) (sym (append-nil (lines_of_step sh (facts_of s) s w x.0 x.1)))

-- where none comes next, the lines so far are all
pub ended_text : (sh : Shows) (m : ℕ) (s : Setup) (v : World) (t t' all : List ℕ) → None ≡ chosen s v → t' ≡ t ++ tree_lines sh s v (step_at (chosen s v)) → t ++ tree_lines sh s v (taken m s v) ≡ all → t' ≡ all
ended_text sh m s v t t' all e told h = told ∙ ap (λ (ss : List StepAt). t ++ tree_lines sh s v ss) (none_at (chosen s v) e ∙ sym (no_more m s v e)) ∙ h

-- one more of `limit` steps behind `n`
pub more_text : (sh : Shows) (n limit : ℕ) (s s' : Setup) (v u : World) (t t' all : List ℕ) → n < limit → s' ≡ s → u ≡ after s v (chosen s v) → t' ≡ t ++ tree_lines sh s v (step_at (chosen s v)) → t ++ tree_lines sh s v (taken (limit - n) s v) ≡ all → t' ++ tree_lines sh s' u (taken (limit - (n + 1)) s' u) ≡ all
more_text sh n limit s s' v u t t' all l same h told so_far =
    let k = limit - (n + 1) in
    let x = after s v (chosen s v) in
    let there : tree_lines sh s' u (taken k s' u) ≡ tree_lines sh s x (taken k s x) = λ i. tree_lines sh (same i) (h i) (taken k (same i) (h i)) in
    let whole : tree_lines sh s v (taken (limit - n) s v) ≡ tree_lines sh s v (step_at (chosen s v)) ++ tree_lines sh s x (taken k s x) = ap (λ z. tree_lines sh s v (taken z s v)) (left n limit l) ∙ one_text sh (chosen s v) s v (taken k s x) in
    (λ i. told i ++ there i) ∙ append_assoc t (tree_lines sh s v (step_at (chosen s v))) (tree_lines sh s x (taken k s x)) ∙ ap (λ (y : List ℕ). t ++ y) (sym whole) ∙ so_far
