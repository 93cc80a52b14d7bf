-- Steps one after another until one isn't taken.
use Rattle.std.specs.Prelude.{◌≡◌, List, [], ◌∷◌, ⊤, Option, Some, None}
use Rattle.asl_run_input.specs.declared.step_at.StepAt.{StepAt}
use Rattle.asl_session.specs.Sessions.{Session, reply_to, next_session}
use Rattle.asl_session.specs.declared.command.Command.TheVariants.{Step}
use Rattle.asl_session.specs.declared.reply.Reply.{Reply}
use Rattle.asl_session.specs.declared.reply.Reply.TheVariants.{Stepped, Refused as IsRefused, Paused as IsPaused}
use Rattle.asl_session.specs.declared.advancing.Stop.{Stop}
use Rattle.asl_session.specs.declared.advancing.Stop.TheVariants.{End, Paused, Refused, OutOfMemory}

-- why a step wasn't taken to which this is the reply; none where it was
abbrev pub stop_of : Reply → Option Stop
stop_of (IsPaused n) = Some (Paused n)
stop_of (IsRefused r) = Some (Refused r)
stop_of r = None

-- the session after these steps
abbrev pub after_steps : Session → List StepAt → Session
after_steps s [] = s
after_steps s (a ∷ l) = after_steps (next_session s (Step a)) l

-- each of these steps is taken
abbrev pub AreTaken : Session → List StepAt → Type 0
AreTaken s [] = ⊤
AreTaken s (a ∷ l) = (reply_to s (Step a) ≡ Stepped) × AreTaken (next_session s (Step a)) l

-- why the first of the steps that are left isn't taken; the end where none is left
abbrev pub IsStop : Session → List StepAt → Stop → Type 0
IsStop s [] End = ⊤
IsStop s [] _ = ⊥
IsStop s (a ∷ l) End = ⊥
IsStop s (a ∷ l) (Paused n) = reply_to s (Step a) ≡ IsPaused n
IsStop s (a ∷ l) (Refused r) = reply_to s (Step a) ≡ IsRefused r
IsStop s (a ∷ l) OutOfMemory = ⊤

-- a step was tried: it was taken, or this is why it wasn't, and nothing changed
abbrev pub IsTried : Session → Session → StepAt → Option Stop → Type 0
IsTried old new a None = (reply_to old (Step a) ≡ Stepped) × (new ≡ next_session old (Step a))
IsTried old new a (Some stop) = IsStop old (a ∷ []) stop × (new ≡ old)
