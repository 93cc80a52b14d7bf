-- What a step can't have changed.
use Rattle.std.proofs.Common.{ℕ, ◌≡◌, ◌+◌, ◌∙◌, ap, sym, refl, subst, Bool, true, false, List, length, get_or, max, Option, Some, None}
use Rattle.std.specs.Prelude.{is_none}
use Rattle.std.proofs.lemmas.List.{length-set}
use Rattle.asl_step.specs.declared.effect.Effect.{Effect}
use Rattle.asl_step.specs.declared.record.Record.{Record}
use Rattle.asl_run_branches.specs.Branches.{record_at}
use Rattle.asl_run_state.specs.Bare.{bare}
use Rattle.asl_run_state.specs.World.{World, counts_after, is_late}
use Rattle.asl_run_state.specs.declared.refusal.Refusal.{Refusal}
use Rattle.asl_run_input.specs.declared.setup.Setup.{Setup}
use Rattle.asl_exec.specs.Steps.{effect_in, facts_of, moved_on, number_in, refusal_in, seen_at, step}
use Rattle.asl_exec.proofs.Accepting.{step_late, step_refused, step_taken}
use Rattle.asl_exec_swap_laws.proofs.Leaving.{record-stays}
use Rattle.asl_branch_numbers.specs.Numbers.{IsBehind}

long : (n : Option ℕ) (raises : Bool) (cs : List ℕ) → length (counts_after n raises cs) ≡ length cs
long n false cs = refl
long None true cs = refl
long (Some n) true cs = length-set cs n (get_or cs n 0 + 1)

unmoved : (p : List ℕ) (w : World) → IsBehind p w w
unmoved p w = record { apart = λ q h. refl; counts = refl; deadline = refl }

moved : (s : Setup) (w : World) (p : List ℕ) (now : ℕ) (o : Option Record) → IsBehind p w (moved_on s w p now o)
moved s w p now None = unmoved p w
moved s w p now (Some r) =
    let e : Effect = effect_in s.machine (facts_of s) (seen_at s.machine s.case w p now r) in
    record {
      apart = λ q h. record-stays p e.after e.children q w.branches h;
      counts = long (number_in s.machine r) e.raises w.counts;
      deadline = refl;
    }

step-behind : (s : Setup) (w : World) (p : List ℕ) (t : ℕ) → IsBehind p w (step s w p t)
step-behind s w p t = by (refusal_in s w p t) refl
  where
    taken : refusal_in s w p t ≡ None → (b : Bool) → is_late (max w.last t) w.deadline ≡ b → IsBehind p w (step s w p t)
    taken e true l = subst (IsBehind p w) (sym (step_late s w p t e l)) record { apart = λ q h. refl; counts = refl; deadline = refl }
    taken e false l = subst (IsBehind p w) (sym (step_taken s w p t e l)) (moved s w p (max w.last t) (record_at p w.branches))

    by : (r : Option Refusal) → refusal_in s w p t ≡ r → IsBehind p w (step s w p t)
    by (Some r) e = subst (IsBehind p w) (sym (step_refused s w p t (ap is_none e))) (unmoved p w)
    by None e = taken e (is_late (max w.last t) w.deadline) refl

-- nor does it matter whether its history is kept
pub behind-next : (s : Setup) (w next : World) (p : List ℕ) (t : ℕ) → next ≡ bare (step s w p t) → IsBehind p w next
behind-next s w next p t e =
    let b = step-behind s w p t in
    subst (IsBehind p w) (sym e) record { apart = b.apart; counts = b.counts; deadline = b.deadline }

-- by the parts of a step
pub behind-reply : (s : Setup) (w v u next : World) (p : List ℕ) (t : ℕ) → v ≡ w → u ≡ step s v p t → next ≡ u → IsBehind p w next
behind-reply s w v u next p t ev eu en = subst (IsBehind p w) (sym (en ∙ eu ∙ ap (λ (x : World). step s x p t) ev)) (step-behind s w p t)
