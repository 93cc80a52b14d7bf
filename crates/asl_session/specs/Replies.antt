-- Replies that hold neither a text nor a record.
use Rattle.std.specs.Prelude.{Bool, true, false}
use Rattle.asl_session.specs.declared.reply.Reply.{Reply}
use Rattle.asl_session.specs.declared.reply.Reply.TheVariants.{Paused, Shown}

-- copying such a reply takes no memory; the others leave the session as it is
abbrev pub is_plain : Reply → Bool
is_plain (Paused n) = false
is_plain (Shown r) = false
is_plain r = true
