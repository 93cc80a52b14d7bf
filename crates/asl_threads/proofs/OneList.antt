-- A run in which no breakpoint is set and nothing taken back is one list of steps.
use Rattle.std.proofs.Common.{◌≡◌, ◌∙◌, ℕ, Bool, true, false, List, [], ◌∷◌, Option, Some, None, refl, sym, ap, cond}
use Rattle.std.specs.Prelude.{map, is_none, is_some, nat_le, length, ◌-◌, if◌then◌else◌}
use Rattle.std.specs.List.{list_any}
use Rattle.std.proofs.lemmas.Bool.{or_parts}
use Rattle.asl_def.specs.Machines.{state_object}
use Rattle.asl_step.specs.declared.record.Record.{Record}
use Rattle.asl_run_branches.specs.Branches.{record_at}
use Rattle.asl_run_state.specs.World.{World}
use Rattle.asl_run_state.specs.declared.refusal.Refusal.{Refusal}
use Rattle.asl_run_input.specs.declared.setup.Setup.{Setup}
use Rattle.asl_run_input.specs.declared.step_at.StepAt.{StepAt}
use Rattle.asl_exec.specs.Steps.{opening, step, world_after, refusal_in}
use Rattle.asl_exec.proofs.Accepting.{step_refused}
use Rattle.asl_exec.proofs.Growing.{after-append}
use Rattle.asl_session.specs.Sessions.{Session, opened, world_in, is_among, held_by, reply_to, reply_to_step, shown_or_none, changed, next_session, session_after}
use Rattle.asl_session.specs.Laws.{is_step}
use Rattle.asl_session.specs.declared.command.Command.{Command}
use Rattle.asl_session.specs.declared.command.Command.TheVariants.{Step, Break, Clear, Resume, Show, Back}
use Rattle.asl_session.specs.declared.reply.Reply.{Reply}
use Rattle.asl_session.specs.declared.reply.Reply.TheVariants.{Set, Cleared, Resumed, NotPaused, NoSuchState, WentBack, TooFar}
use Rattle.asl_threads.specs.declared.row.Row.{Row}
use Rattle.asl_threads.specs.Runs.{IsLegal, commands_of}
use Rattle.asl_threads.specs.Laws.{is_mark, steps_in, reply_in, moved_by, replies_in, StepsAreOneList}
use Rattle.asl_threads.proofs.Replays.{setup-next}

-- ---- no branch pauses where no breakpoint is set

unheld : (s : Session) (p : List ℕ) (o : Option (List ℕ)) → s.breakpoints ≡ [] → held_by s p o ≡ None
unheld s p None h = refl
unheld s p (Some n) h = rw h refl

never-pauses : (s : Session) (p : List ℕ) (o : Option (List ℕ)) (late : Bool) → s.breakpoints ≡ [] → (if late then None else held_by s p o) ≡ None
never-pauses s p o true h = refl
never-pauses s p o false h = unheld s p o h

-- ---- what a command is replied

break-reply : (b : Bool) → is_mark (cond b Set NoSuchState) ≡ false → cond b Set NoSuchState ≡ NoSuchState
break-reply true e = absurd cc
break-reply false e = refl

back-reply : (b : Bool) (left : ℕ) → is_mark (cond b (WentBack left) TooFar) ≡ false → cond b (WentBack left) TooFar ≡ TooFar
back-reply true left e = absurd cc
back-reply false left e = refl

replied : (s : Session) (c : Command) → s.breakpoints ≡ [] → is_mark (reply_to s c) ≡ false → reply_to s c ≡ reply_in s.setup (world_in s) c
replied s (Step a) h e = ap (reply_to_step (refusal_in s.setup (world_in s) a.place a.moment)) (never-pauses s a.place _ _ h)
replied s (Break n) h e = break-reply (is_some (state_object n s.setup.machine)) e
replied s (Clear n) h e = ap (λ (ns : List (List ℕ)). cond (is_among n ns) Cleared NoSuchState) h
replied s (Resume p) h e = ap (λ (o : Option (List ℕ)). cond (is_some o) Resumed NotPaused) (unheld s p _ h)
replied s (Show p) h e = refl
replied s (Back n) h e = back-reply (nat_le n (length s.steps)) (length s.steps - n) e

-- ---- what a step makes of the session

world-by : (s : Session) (a : StepAt) (o : Option Refusal) → refusal_in s.setup (world_in s) a.place a.moment ≡ o → world_in (changed s (Step a) (reply_to_step o None)) ≡ step s.setup (world_in s) a.place a.moment
world-by s a (Some r) e = sym (step_refused s.setup (world_in s) a.place a.moment (ap is_none e))
world-by s a None e = after-append s.setup (opening s.setup) s.steps (a ∷ [])

breakpoints-by : (s : Session) (a : StepAt) (o : Option Refusal) → (changed s (Step a) (reply_to_step o None)).breakpoints ≡ s.breakpoints
breakpoints-by s a (Some r) = refl
breakpoints-by s a None = refl

-- ---- every other command leaves it

shown-stays : (s : Session) (p : List ℕ) (o : Option Record) → changed s (Show p) (shown_or_none o) ≡ s
shown-stays s p (Some r) = refl
shown-stays s p None = refl

stays : (s : Session) (w : World) (c : Command) → is_step c ≡ false → changed s c (reply_in s.setup w c) ≡ s
stays s w (Step a) e = absurd cc
stays s w (Break n) e = refl
stays s w (Clear n) e = refl
stays s w (Resume p) e = refl
stays s w (Show p) e = shown-stays s p (record_at p w.branches)
stays s w (Back n) e = refl

next-stays : (s : Session) (c : Command) → s.breakpoints ≡ [] → is_mark (reply_to s c) ≡ false → is_step c ≡ false → next_session s c ≡ s
next-stays s c h e n = ap (changed s c) (replied s c h e) ∙ stays s (world_in s) c n

-- ---- one command

record GoesOn (s : Session) (c : Command) : Type 0 where
  world : world_in (next_session s c) ≡ moved_by s.setup (world_in s) c
  breakpoints : (next_session s c).breakpoints ≡ []

still : (s : Session) (c : Command) → s.breakpoints ≡ [] → moved_by s.setup (world_in s) c ≡ world_in s → next_session s c ≡ s → GoesOn s c
still s c h unmoved same = record {
  world = ap world_in same ∙ sym unmoved;
  breakpoints = ap (λ (t : Session). t.breakpoints) same ∙ h;
}

goes-on : (s : Session) (c : Command) → s.breakpoints ≡ [] → is_mark (reply_to s c) ≡ false → GoesOn s c
goes-on s (Step a) h e =
    let o = refusal_in s.setup (world_in s) a.place a.moment in
    let same : next_session s (Step a) ≡ changed s (Step a) (reply_to_step o None) = ap (changed s (Step a)) (replied s (Step a) h e) in
    record {
      world = ap world_in same ∙ world-by s a o refl;
      breakpoints = ap (λ (t : Session). t.breakpoints) same ∙ (breakpoints-by s a o ∙ h);
    }
goes-on s (Break n) h e = still s (Break n) h refl (next-stays s (Break n) h e refl)
goes-on s (Clear n) h e = still s (Clear n) h refl (next-stays s (Clear n) h e refl)
goes-on s (Resume p) h e = still s (Resume p) h refl (next-stays s (Resume p) h e refl)
goes-on s (Show p) h e = still s (Show p) h refl (next-stays s (Show p) h e refl)
goes-on s (Back n) h e = still s (Back n) h refl (next-stays s (Back n) h e refl)

-- ---- all commands

moved-after : (s : Setup) (w : World) (c : Command) (cs : List Command) → world_after s (moved_by s w c) (steps_in cs) ≡ world_after s w (steps_in (c ∷ cs))
moved-after s w (Step a) cs = refl
moved-after s w (Break n) cs = refl
moved-after s w (Clear n) cs = refl
moved-after s w (Resume p) cs = refl
moved-after s w (Show p) cs = refl
moved-after s w (Back n) cs = refl

commands-by : (s : Session) (rows : List Row) → s.breakpoints ≡ [] → list_any (λ (q : Row). is_mark q.reply) rows ≡ false → IsLegal s rows
    → (map (λ (q : Row). q.reply) rows ≡ replies_in s.setup (world_in s) (commands_of rows)) × (world_in (session_after s (commands_of rows)) ≡ world_after s.setup (world_in s) (steps_in (commands_of rows)))
commands-by s [] h e legal = (refl, refl)
commands-by s (r ∷ rows) h e legal =
    let both = or_parts (is_mark r.reply) (list_any (λ (q : Row). is_mark q.reply) rows) e in
    let unmarked : is_mark (reply_to s r.command) ≡ false = ap is_mark (sym legal.0) ∙ both.0 in
    let next = next_session s r.command in
    let setup : next.setup ≡ s.setup = setup-next s r.command in
    let here = goes-on s r.command h unmarked in
    let world : world_in next ≡ moved_by s.setup (world_in s) r.command = here.world in
    let reply : r.reply ≡ reply_in s.setup (world_in s) r.command = legal.0 ∙ replied s r.command h unmarked in
    let behind = commands-by next rows here.breakpoints both.1 legal.1 in (
      (λ i. reply i ∷ (behind.0 ∙ λ j. replies_in (setup j) (world j) (commands_of rows)) i),
      behind.1 ∙ ((λ j. world_after (setup j) (world j) (steps_in (commands_of rows))) ∙ moved-after s.setup (world_in s) r.command (commands_of rows)),
    )

pub steps-are-one-list : StepsAreOneList
steps-are-one-list run seats r h unmarked =
    let all = commands-by (opened run.setup) r.rows.items refl unmarked h.replay.legal in
    (all.0, ap world_in h.replay.session_is ∙ all.1)
