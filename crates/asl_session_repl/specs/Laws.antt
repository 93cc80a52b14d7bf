-- A line of a script may be typed: it is answered as in a script.
use Rattle.std.specs.Prelude.{ℕ, ◌≡◌, Bool, List, Some}
use Rattle.asl_session.specs.Scripts.{IsCommandLine}
use Rattle.asl_session.specs.Sessions.{Session, reply_to, next_session}
use Rattle.asl_session.specs.ReplyLines.{answer_line}
use Rattle.asl_session.specs.declared.command.Command.{Command}
use Rattle.asl_session.specs.declared.command.Command.TheVariants as command
use Rattle.asl_session_repl.specs.declared.timed.When.TheVariants.{At}
use Rattle.asl_session_repl.specs.declared.request.Request.{Request}
use Rattle.asl_session_repl.specs.declared.request.Request.TheVariants.{Told, Step}
use Rattle.asl_session_repl.specs.Requests.{IsRequest}
use Rattle.asl_session_repl.specs.Answers.{answer_to, after}

-- what a line asks for that spells the command
abbrev pub request_of : Command → Request
request_of (command.Step a) = Step a.place (Some (At a.moment))
request_of c = Told c

-- each line of a script asks for what a script tells a session by it, and is answered so
abbrev pub MayBeTyped : Type 0
MayBeTyped =
    (line : List ℕ) (c : Command) → IsCommandLine line c
    → IsRequest line (request_of c)
    × ((h : Bool) (s : Session) → (answer_to h s (request_of c) ≡ answer_line (reply_to s c))
    × (after h s (request_of c) ≡ next_session s c))
