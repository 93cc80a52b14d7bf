-- Context Objects of steps that differ in how often the state was invoked before.
use Rattle.std.proofs.Common.{◌≡◌, inl, inr, ℕ, [], ◌∷◌, ◌++◌, Bool, true, false, refl, subst, cond, Option, Some, None}
use Rattle.std.specs.Prelude.{codes}
use Rattle.std.proofs.lemmas.Bool.{both_ways}
use Rattle.asl_json_data.specs.Data.{Data, text, dict, pairs}
use Rattle.asl_json_data.specs.Distinct.{Members, has_key}
use Rattle.asl_step.specs.declared.facts.Facts.{Facts}
use Rattle.asl_step.specs.Seen.{Seen}
use Rattle.asl_step.specs.Context.{execution_of, state_machine_of, state_of, map_part, task_of, token_of, context_of}
use Rattle.asl_kinds.specs.Forks.{in_iteration}
use Rattle.asl_kinds.specs.Table.{invokes}
use Rattle.asl_step_reads.specs.Reading.{AreEqualBut}
use Rattle.asl_step_reads.specs.Steps.{token_keys, with_count}
use Rattle.asl_step_reads.specs.Laws.{CountsDontMatter, OthersDontCount}
use Rattle.asl_step_reads.proofs.Agreeing.{AllAgree, unread_agrees, all_agree}
use Rattle.asl_step_reads.proofs.Counting.{task_same, state_same}

-- what stands before the members of a Task
abbrev front : Facts → Seen → Option (ℕ × Data) → Members
front f v i = (codes "Execution", execution_of f) ∷ (codes "StateMachine", state_machine_of f) ∷ (codes "State", state_of v.moment v.current) ∷ map_part i

abbrev object : Facts → Seen → Option (ℕ × Data) → Bool → Data
object f v i c = dict (pairs (front f v i ++ cond c ((codes "Task", task_of f v) ∷ []) []))

no_task : (f : Facts) (v : Seen) (i : Option (ℕ × Data)) → has_key (codes "Task") (front f v i) ≡ false
no_task f v None = refl
no_task f v (Some i) = refl

object_but : (f : Facts) (v : Seen) (n : ℕ) (i : Option (ℕ × Data)) (c : Bool) → AreEqualBut token_keys (object f (with_count v n) i c) (object f v i c)
object_but f v n i false = inl refl
object_but f v n i true = inr (record {
  before = front f v i;
  after = [];
  one = task_of f (with_count v n);
  other = task_of f v;
  a_is = refl;
  b_is = refl;
  first = no_task f v i;
  related = inr (record { before = []; after = []; one = text (token_of f (with_count v n)); other = text (token_of f v); a_is = refl; b_is = refl; first = refl; related = tt });
})

pub context_but : (f : Facts) (v : Seen) (n : ℕ) → AreEqualBut token_keys (context_of f (with_count v n)) (context_of f v)
unfolding context_of
context_but f v n = object_but f v n v.iteration v.invokes

context_is : (f : Facts) (v : Seen) (n : ℕ) → v.invokes ≡ false → context_of f (with_count v n) ≡ context_of f v
unfolding context_of
context_is f v n none = by v.invokes none
  where
    by : (c : Bool) → c ≡ false → object f (with_count v n) v.iteration c ≡ object f v v.iteration c
    by true e = absurd cc
    by false e = refl

pub counts : CountsDontMatter
counts d f v n unread answers =
    let agree = unread_agrees token_keys (context_of f (with_count v n)) (context_of f v) d (context_but f v n) unread in
    state_same d f v n agree
    (λ i x. unread_agrees token_keys (context_of f (in_iteration (with_count v n) i x)) (context_of f (in_iteration v i x)) d (context_but f (in_iteration v i x) n) unread)
    (λ e. task_same d f v n agree (answers e))

same_agree : (a b d : Data) → a ≡ b → AllAgree a b d
same_agree a b d e = subst (λ (z : Data). AllAgree a z d) e (all_agree a d)

pub others : OthersDontCount
others d f v n quiet none =
    state_same d f v n
    (same_agree (context_of f (with_count v n)) (context_of f v) d (context_is f v n none))
    (λ i x. same_agree (context_of f (in_iteration (with_count v n) i x)) (context_of f (in_iteration v i x)) d (context_is f (in_iteration v i x) n none))
    (λ e. absurd (both_ways (invokes d) quiet e))
