-- Before the first step no reply depends on the moment at which the execution starts.
use Rattle.std.proofs.Common.{ℕ, ◌≡◌, ◌∙◌, false, List, [], ◌∷◌, ◌++◌, Option, Some, None, refl, sym, ap, cond}
use Rattle.std.specs.Prelude.{is_some}
use Rattle.std.specs.List.{list_any}
use Rattle.std.proofs.lemmas.Bool.{or_parts}
use Rattle.std.proofs.Math.Seq.{take-nil}
use Rattle.asl_run_branches.specs.Branches.{Branch, record_at}
use Rattle.asl_run_input.specs.declared.step_at.StepAt.{StepAt}
use Rattle.asl_exec.specs.Steps.{opening, world_after}
use Rattle.asl_session.specs.Sessions.{Session, restarted, opened, world_in, entering_of, held_by, breakpoint_at, shown_or_none, reply_to, changed, next_session, session_after}
use Rattle.asl_session.specs.ReplyLines.{answer_line}
use Rattle.asl_session.specs.Scripts.{answer_lines}
use Rattle.asl_session.specs.Laws.{is_step, StartsLater}
use Rattle.asl_session.specs.declared.command.Command.{Command}
use Rattle.asl_session.specs.declared.command.Command.TheVariants.{Step, Break, Clear, Resume, Show, Back}
use Rattle.asl_session.specs.declared.reply.Reply.{Reply}
use Rattle.asl_session.specs.declared.reply.Reply.TheVariants.{Set, Cleared, Resumed, NotPaused, WentBack}

-- ---- one command

-- whenever it starts, the same branches run
same-branches : (t : ℕ) (s : Session) → s.steps ≡ [] → (world_in (restarted t s)).branches ≡ (world_in s).branches
same-branches t s e = sym (ap (λ (l : List StepAt). (world_after s.setup (opening s.setup) l).branches) e)

same-held : (t : ℕ) (s : Session) (p : List ℕ) (o : Option (List ℕ)) → held_by (restarted t s) p o ≡ held_by s p o
same-held t s p None = refl
same-held t s p (Some n) = refl

same-breakpoint : (t : ℕ) (s : Session) (p : List ℕ) → s.steps ≡ [] → breakpoint_at (restarted t s) p ≡ breakpoint_at s p
same-breakpoint t s p e =
    same-held t s p (entering_of (record_at p (world_in (restarted t s)).branches))
    ∙ ap (λ (bs : List Branch). held_by s p (entering_of (record_at p bs))) (same-branches t s e)

same-reply : (t : ℕ) (s : Session) (c : Command) → s.steps ≡ [] → is_step c ≡ false → reply_to (restarted t s) c ≡ reply_to s c
same-reply t s (Step a) e h = absurd cc
same-reply t s (Break n) e h = refl
same-reply t s (Clear n) e h = refl
same-reply t s (Resume p) e h = ap (λ (o : Option (List ℕ)). cond (is_some o) Resumed NotPaused) (same-breakpoint t s p e)
same-reply t s (Show p) e h = ap (λ (bs : List Branch). shown_or_none (record_at p bs)) (same-branches t s e)
same-reply t s (Back n) e h = rw e refl

same-changed : (t : ℕ) (s : Session) (c : Command) (r : Reply) → is_step c ≡ false → changed (restarted t s) c r ≡ restarted t (changed s c r)
same-changed t s (Step a) r h = absurd cc
same-changed t s (Break n) Set h = refl
same-changed t s (Clear n) Cleared h = refl
same-changed t s (Resume p) Resumed h = refl
same-changed t s (Back n) (WentBack left) h = rw (take-nil {A = StepAt} left) refl
same-changed t s c r h = refl

same-next : (t : ℕ) (s : Session) (c : Command) → s.steps ≡ [] → is_step c ≡ false → next_session (restarted t s) c ≡ restarted t (next_session s c)
same-next t s c e h = ap (changed (restarted t s) c) (same-reply t s c e h) ∙ same-changed t s c (reply_to s c) h

none-taken : (s : Session) (c : Command) (r : Reply) → s.steps ≡ [] → is_step c ≡ false → (changed s c r).steps ≡ []
none-taken s (Step a) r e h = absurd cc
none-taken s (Break n) Set e h = e
none-taken s (Clear n) Cleared e h = e
none-taken s (Resume p) Resumed e h = e
none-taken s (Back n) (WentBack left) e h = rw e (take-nil {A = StepAt} left)
none-taken s c r e h = e

-- ---- commands

later : (t : ℕ) (s : Session) (cs : List Command) → s.steps ≡ [] → list_any is_step cs ≡ false
    → (answer_lines (restarted t s) cs ≡ answer_lines s cs) × (session_after (restarted t s) cs ≡ restarted t (session_after s cs))
later t s [] e h = (refl, refl)
later t s (c ∷ cs) e h =
    let both = or_parts (is_step c) (list_any is_step cs) h in
    let next = same-next t s c e both.0 in
    let rest = later t (next_session s c) cs (none-taken s c (reply_to s c) e both.0) both.1 in
    let lines : answer_lines (restarted t s) (c ∷ cs) ≡ answer_lines s (c ∷ cs) =
    ap (λ (r : Reply). answer_line r ++ answer_lines (next_session (restarted t s) c) cs) (same-reply t s c e both.0)
    ∙ ap (λ (u : Session). answer_line (reply_to s c) ++ answer_lines u cs) next
    ∙ ap (λ (l : List ℕ). answer_line (reply_to s c) ++ l) rest.0 in
    (lines, ap (λ (u : Session). session_after u cs) next ∙ rest.1)

pub starts-later : StartsLater
starts-later setup t cs h = later t (opened setup) cs refl h
