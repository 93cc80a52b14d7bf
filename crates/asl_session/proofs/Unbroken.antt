-- A run that is broken and goes on ends as the unbroken one.
use Rattle.std.proofs.Common.{ℕ, ◌≡◌, ◌∙◌, Bool, true, false, ◌||◌, List, [], ◌∷◌, Option, Some, None, refl, sym, ap, cond}
use Rattle.std.specs.Prelude.{is_none, is_some}
use Rattle.std.specs.List.{list_any}
use Rattle.std.proofs.lemmas.Bool.{or_parts}
use Rattle.asl_def.specs.Machines.{state_object}
use Rattle.asl_step.specs.declared.record.Record.{Record}
use Rattle.asl_run_branches.specs.Branches.{record_at}
use Rattle.asl_run_state.specs.World.{World}
use Rattle.asl_run_state.specs.declared.refusal.Refusal.{Refusal}
use Rattle.asl_run_input.specs.declared.setup.Setup.{Setup}
use Rattle.asl_run_input.specs.declared.step_at.StepAt.{StepAt}
use Rattle.asl_exec.specs.Steps.{opening, world_after, refusal_in}
use Rattle.asl_exec.proofs.Accepting.{step_refused}
use Rattle.asl_exec.proofs.Growing.{after-append}
use Rattle.asl_session.specs.Sessions.{Session, world_in, is_among, pause_at, breakpoint_at, reply_to_step, shown_or_none, reply_to, changed, next_session}
use Rattle.asl_session.specs.Laws.{is_step, is_back, tried, unpaused, NoTrace, EndsUnbroken}
use Rattle.asl_session.specs.declared.command.Command.{Command}
use Rattle.asl_session.specs.declared.command.Command.TheVariants.{Step, Break, Clear, Resume, Show, Back}
use Rattle.asl_session.specs.declared.reply.Reply.{Reply}
use Rattle.asl_session.specs.declared.reply.Reply.TheVariants.{Stepped, Set, Cleared, Resumed, NotPaused, NoSuchState, WentBack}

-- ---- what no command changes

setup-kept : (s : Session) (c : Command) (r : Reply) → (changed s c r).setup ≡ s.setup
setup-kept s (Step a) Stepped = refl
setup-kept s (Break n) Set = refl
setup-kept s (Clear n) Cleared = refl
setup-kept s (Resume p) Resumed = refl
setup-kept s (Back n) (WentBack left) = refl
setup-kept s c r = refl

-- ---- one command

refused-stays : (s : Session) (a : StepAt) (r : Refusal) → refusal_in s.setup (world_in s) a.place a.moment ≡ Some r → world_in s ≡ world_after s.setup (world_in s) (a ∷ [])
refused-stays s a r e = sym (step_refused s.setup (world_in s) a.place a.moment (ap is_none e))

step-case : (s : Session) (a : StepAt) (r : Option Refusal) (o : Option (List ℕ)) → refusal_in s.setup (world_in s) a.place a.moment ≡ r → world_in (changed s (Step a) (reply_to_step r o)) ≡ world_after s.setup (world_in s) (tried (Step a) (reply_to_step r o))
step-case s a (Some r) o e = refused-stays s a r e
step-case s a None (Some n) e = refl
step-case s a None None e = after-append s.setup (opening s.setup) s.steps (a ∷ [])

break-case : (s : Session) (n : List ℕ) (b : Bool) → world_in (changed s (Break n) (cond b Set NoSuchState)) ≡ world_after s.setup (world_in s) (tried (Break n) (cond b Set NoSuchState))
break-case s n true = refl
break-case s n false = refl

clear-case : (s : Session) (n : List ℕ) (b : Bool) → world_in (changed s (Clear n) (cond b Cleared NoSuchState)) ≡ world_after s.setup (world_in s) (tried (Clear n) (cond b Cleared NoSuchState))
clear-case s n true = refl
clear-case s n false = refl

resume-case : (s : Session) (p : List ℕ) (b : Bool) → world_in (changed s (Resume p) (cond b Resumed NotPaused)) ≡ world_after s.setup (world_in s) (tried (Resume p) (cond b Resumed NotPaused))
resume-case s p true = refl
resume-case s p false = refl

show-case : (s : Session) (p : List ℕ) (o : Option Record) → world_in (changed s (Show p) (shown_or_none o)) ≡ world_after s.setup (world_in s) (tried (Show p) (shown_or_none o))
show-case s p (Some r) = refl
show-case s p None = refl

one : (s : Session) (c : Command) → is_back c ≡ false → world_in (next_session s c) ≡ world_after s.setup (world_in s) (tried c (reply_to s c))
one s (Step a) h = step-case s a (refusal_in s.setup (world_in s) a.place a.moment) (pause_at s a) refl
one s (Break n) h = break-case s n (is_some (state_object n s.setup.machine))
one s (Clear n) h = clear-case s n (is_among n s.breakpoints)
one s (Resume p) h = resume-case s p (is_some (breakpoint_at s p))
one s (Show p) h = show-case s p (record_at p (world_in s).branches)
one s (Back n) h = absurd cc

-- ---- commands

pub ends-unbroken : EndsUnbroken
ends-unbroken s [] h = refl
ends-unbroken s (c ∷ cs) h =
    let both = or_parts (is_back c) (list_any is_back cs) h in
    let next = next_session s c in
    let done = tried c (reply_to s c) in
    ends-unbroken next cs both.1
    ∙ ap (λ (u : Setup). world_after u (world_in next) (unpaused next cs)) (setup-kept s c (reply_to s c))
    ∙ ap (λ (w : World). world_after s.setup w (unpaused next cs)) (one s c both.0)
    ∙ sym (after-append s.setup (world_in s) done (unpaused next cs))

-- ---- without steps nothing changes

quiet-tried : (s : Session) (c : Command) (r : Reply) → is_step c ≡ false → tried c r ≡ []
quiet-tried s (Step a) r h = absurd cc
quiet-tried s (Break n) r h = refl
quiet-tried s (Clear n) r h = refl
quiet-tried s (Resume p) r h = refl
quiet-tried s (Show p) r h = refl
quiet-tried s (Back n) r h = refl

quiet : (s : Session) (c : Command) → (is_step c || is_back c) ≡ false → world_in (next_session s c) ≡ world_in s
quiet s c h =
    let both = or_parts (is_step c) (is_back c) h in
    one s c both.1 ∙ ap (world_after s.setup (world_in s)) (quiet-tried s c (reply_to s c) both.0)

pub no-trace : NoTrace
no-trace s [] h = refl
no-trace s (c ∷ cs) h =
    let both = or_parts (is_step c || is_back c) (list_any (λ d. is_step d || is_back d) cs) h in
    no-trace (next_session s c) cs both.1 ∙ quiet s c both.0
