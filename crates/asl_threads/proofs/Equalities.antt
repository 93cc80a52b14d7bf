-- What is equal is one: commands and replies, and with them entries and rows.
use Rattle.std.proofs.Common.{◌≡◌, ◌∙◌, Bool, true, refl, sym, ap}
use Rattle.std.specs.Prelude.{◌↔◌}
use Rattle.std.specs.Bool.{Decides}
use Rattle.std.specs.Cmp.{unsigned_Decides}
use Rattle.std.specs.Cmp.Lexicographic.{bytes_decides}
use Rattle.std.proofs.lemmas.Bool.Decides.{Decides-and}
use Rattle.asl_json.specs.Same.{bytes_eq}
use Rattle.asl_step.proofs.Equalities.{record_decides}
use Rattle.asl_run_input.specs.declared.step_at.StepAt.{StepAt}
use Rattle.asl_run_input.specs.contracts.step_at.StepAtPartialEq.TheImpl as steps
use Rattle.asl_run_state.specs.declared.refusal.Refusal.{Refusal}
use Rattle.asl_run_state.specs.declared.refusal.Refusal.TheVariants.{Over, NoSuchPlace as NoPlace, Stopped, Finished, Busy, Slots, NotYet, HistoryFull, OutOfMemory}
use Rattle.asl_run_state.specs.contracts.refusal.RefusalPartialEq.TheImpl as refusals
use Rattle.asl_session.specs.declared.command.Command.{Command}
use Rattle.asl_session.specs.declared.command.Command.TheVariants.{Step, Break, Clear, Resume, Show, Back}
use Rattle.asl_session.specs.declared.reply.Reply.{Reply}
use Rattle.asl_session.specs.declared.reply.Reply.TheVariants.{Stepped, Refused, Paused, Set, Cleared, Resumed, NotPaused, NoSuchState, NoSuchPlace, Shown, WentBack, TooFar}
use Rattle.asl_session.specs.contracts.command.CommandPartialEq.TheImpl as commands
use Rattle.asl_session.specs.contracts.reply.ReplyPartialEq.TheImpl as replies
use Rattle.asl_threads.specs.declared.row.Row.{Row}
use Rattle.asl_threads.specs.declared.seat.Entry.{Entry}
use Rattle.asl_threads.specs.Runs.{entry_of}

-- ---- commands and replies, by their parts

refusal_decides : (a b : Refusal) → Decides ((refusals.ghosts).eq a b) (a ≡ b)
refusal_decides (NotYet s) (NotYet t) = (λ e. ap NotYet ((unsigned_Decides s t).0 e), λ e. (unsigned_Decides s t).1 (cc e))
refusal_decides Over Over = (λ e. refl, λ e. refl)
refusal_decides NoPlace NoPlace = (λ e. refl, λ e. refl)
refusal_decides Stopped Stopped = (λ e. refl, λ e. refl)
refusal_decides Finished Finished = (λ e. refl, λ e. refl)
refusal_decides Busy Busy = (λ e. refl, λ e. refl)
refusal_decides Slots Slots = (λ e. refl, λ e. refl)
refusal_decides HistoryFull HistoryFull = (λ e. refl, λ e. refl)
refusal_decides OutOfMemory OutOfMemory = (λ e. refl, λ e. refl)
refusal_decides a b = (λ e. absurd (cc e), λ e. absurd (cc e))

step_decides : (a b : StepAt) → Decides ((steps.ghosts).eq a b) (a ≡ b)
step_decides a b =
    let d = Decides-and (bytes_eq a.place b.place) _ (bytes_decides a.place b.place) (unsigned_Decides a.moment b.moment) in (
      λ e. λ i. record { place = (d.0 e).0 i; moment = (d.0 e).1 i },
      λ e. d.1 (ap (λ (s : StepAt). s.place) e, ap (λ (s : StepAt). s.moment) e),
    )

pub command_decides : (a b : Command) → Decides ((commands.ghosts).eq a b) (a ≡ b)
command_decides (Step a) (Step b) = (λ e. ap Step ((step_decides a b).0 e), λ e. (step_decides a b).1 (cc e))
command_decides (Break n) (Break m) = (λ e. ap Break ((bytes_decides n m).0 e), λ e. (bytes_decides n m).1 (cc e))
command_decides (Clear n) (Clear m) = (λ e. ap Clear ((bytes_decides n m).0 e), λ e. (bytes_decides n m).1 (cc e))
command_decides (Resume p) (Resume q) = (λ e. ap Resume ((bytes_decides p q).0 e), λ e. (bytes_decides p q).1 (cc e))
command_decides (Show p) (Show q) = (λ e. ap Show ((bytes_decides p q).0 e), λ e. (bytes_decides p q).1 (cc e))
command_decides (Back m) (Back n) = (λ e. ap Back ((unsigned_Decides m n).0 e), λ e. (unsigned_Decides m n).1 (cc e))
command_decides a b = (λ e. absurd (cc e), λ e. absurd (cc e))

pub reply_decides : (a b : Reply) → Decides ((replies.ghosts).eq a b) (a ≡ b)
reply_decides (Refused r) (Refused s) = (λ e. ap Refused ((refusal_decides r s).0 e), λ e. (refusal_decides r s).1 (cc e))
reply_decides (Paused n) (Paused m) = (λ e. ap Paused ((bytes_decides n m).0 e), λ e. (bytes_decides n m).1 (cc e))
reply_decides (Shown r) (Shown s) = (λ e. ap Shown ((record_decides r s).0 e), λ e. (record_decides r s).1 (cc e))
reply_decides (WentBack m) (WentBack n) = (λ e. ap WentBack ((unsigned_Decides m n).0 e), λ e. (unsigned_Decides m n).1 (cc e))
reply_decides Stepped Stepped = (λ e. refl, λ e. refl)
reply_decides Set Set = (λ e. refl, λ e. refl)
reply_decides Cleared Cleared = (λ e. refl, λ e. refl)
reply_decides Resumed Resumed = (λ e. refl, λ e. refl)
reply_decides NotPaused NotPaused = (λ e. refl, λ e. refl)
reply_decides NoSuchState NoSuchState = (λ e. refl, λ e. refl)
reply_decides NoSuchPlace NoSuchPlace = (λ e. refl, λ e. refl)
reply_decides TooFar TooFar = (λ e. refl, λ e. refl)
reply_decides a b = (λ e. absurd (cc e), λ e. absurd (cc e))

-- ---- entries and rows

-- where the commands are equal, comparing the replies decides whether an entry is that of a row
pub entry_decides : (e : Entry) (r : Row) (b : Bool) → true ≡ (commands.ghosts).eq e.command r.command → b ≡ (replies.ghosts).eq e.reply r.reply → ((b ≡ true) ↔ (e ≡ entry_of r))
entry_decides e r b same is =
    let command : e.command ≡ r.command = (command_decides e.command r.command).0 (sym same) in
    let reply = reply_decides e.reply r.reply in (
      λ h. λ i. record { command = command i; reply = reply.0 (sym is ∙ h) i },
      λ h. is ∙ reply.1 (ap (λ (x : Entry). x.reply) h),
    )
