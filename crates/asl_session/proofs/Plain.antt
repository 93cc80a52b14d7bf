-- What a reply that takes memory to copy leaves.
use Rattle.std.proofs.Common.{ℕ, ◌≡◌, false, List, refl}
use Rattle.asl_step.specs.declared.record.Record.{Record}
use Rattle.asl_session.specs.Sessions.{Session, changed, reply_to, next_session}
use Rattle.asl_session.specs.Replies.{is_plain}
use Rattle.asl_session.specs.declared.command.Command.{Command}
use Rattle.asl_session.specs.declared.command.Command.TheVariants.{Step, Break, Clear, Resume, Show, Back}
use Rattle.asl_session.specs.declared.reply.Reply.{Reply}
use Rattle.asl_session.specs.declared.reply.Reply.TheVariants.{Paused, Shown}

paused-stays : (s : Session) (c : Command) (n : List ℕ) → changed s c (Paused n) ≡ s
paused-stays s (Step a) n = refl
paused-stays s (Break m) n = refl
paused-stays s (Clear m) n = refl
paused-stays s (Resume p) n = refl
paused-stays s (Show p) n = refl
paused-stays s (Back k) n = refl

shown-stays : (s : Session) (c : Command) (r : Record) → changed s c (Shown r) ≡ s
shown-stays s (Step a) r = refl
shown-stays s (Break m) r = refl
shown-stays s (Clear m) r = refl
shown-stays s (Resume p) r = refl
shown-stays s (Show p) r = refl
shown-stays s (Back k) r = refl

by-reply : (s : Session) (c : Command) (r : Reply) → is_plain r ≡ false → changed s c r ≡ s
by-reply s c (Paused n) h = paused-stays s c n
by-reply s c (Shown x) h = shown-stays s c x
by-reply s c r h = absurd cc

-- the session is as it was, so that a caller whose copy of the reply is refused has changed nothing
pub unplain-stays : (s : Session) (c : Command) → is_plain (reply_to s c) ≡ false → next_session s c ≡ s
unplain-stays s c h = by-reply s c (reply_to s c) h
