-- Steps one after another.
use Rattle.std.proofs.Common.{ℕ, ◌≡◌, ◌∙◌, List, [], ◌∷◌, ◌++◌, Option, Some, None, refl, sym, ap}
use Rattle.asl_run_state.specs.declared.refusal.Refusal.{Refusal}
use Rattle.asl_run_input.specs.declared.step_at.StepAt.{StepAt}
use Rattle.asl_exec.specs.Steps.{refusal_in}
use Rattle.asl_session.specs.Sessions.{Session, world_in, pause_at, reply_to_step, reply_to, changed, next_session}
use Rattle.asl_session.specs.Advancing.{stop_of, after_steps, AreTaken, IsTried}
use Rattle.asl_session.specs.declared.command.Command.TheVariants.{Step}
use Rattle.asl_session.specs.declared.reply.Reply.{Reply}
use Rattle.asl_session.specs.declared.reply.Reply.TheVariants.{Stepped}
use Rattle.asl_session.specs.declared.advancing.Stop.{Stop}

by-parts : (old : Session) (a : StepAt) (r : Option Refusal) (o : Option (List ℕ)) → reply_to old (Step a) ≡ reply_to_step r o → IsTried old (changed old (Step a) (reply_to_step r o)) a (stop_of (reply_to_step r o))
by-parts old a (Some r) o e = (e, refl)
by-parts old a None (Some n) e = (e, refl)
by-parts old a None None e = (e, ap (changed old (Step a)) (sym e))

pub tried-is : (old new : Session) (a : StepAt) (reply : Reply) (stop : Option Stop) → reply ≡ reply_to old (Step a) → new ≡ next_session old (Step a) → stop ≡ stop_of reply → IsTried old new a stop
tried-is old new a reply stop r n s =
    let stop_is : stop ≡ stop_of (reply_to old (Step a)) = s ∙ ap stop_of r in
    rw (n, stop_is) (by-parts old a (refusal_in old.setup (world_in old) a.place a.moment) (pause_at old a) refl)

-- ---- a step more

taken-last : (s : Session) (l : List StepAt) (a : StepAt) → AreTaken s l → reply_to (after_steps s l) (Step a) ≡ Stepped → AreTaken s (l ++ a ∷ [])
taken-last s [] a h e = (e, tt)
taken-last s (b ∷ l) a h e = (h.0, taken-last (next_session s (Step b)) l a h.1 e)

after-last : (s : Session) (l : List StepAt) (a : StepAt) → after_steps s (l ++ a ∷ []) ≡ next_session (after_steps s l) (Step a)
after-last s [] a = refl
after-last s (b ∷ l) a = after-last (next_session s (Step b)) l a

-- the steps so far were taken, and led here
pub record AreDone (old new : Session) (l : List StepAt) : Type 0 where
  pub taken : AreTaken old l
  pub here : new ≡ after_steps old l

pub done-more : (old now new : Session) (l : List StepAt) (a : StepAt) → AreDone old now l → IsTried now new a None → AreDone old new (l ++ a ∷ [])
done-more old now new l a h t = record {
  taken = taken-last old l a h.taken (rw h.here at t.0);
  here = t.1 ∙ ap (λ (s : Session). next_session s (Step a)) h.here ∙ sym (after-last old l a);
}
