-- Lines of scripts, where they are typed.
use Rattle.std.proofs.Common.{ℕ, ◌≡◌, Bool, List, refl, sym, subst}
use Rattle.asl_session.specs.Scripts.{IsCommandLine}
use Rattle.asl_session.specs.Sessions.{Session, reply_to, next_session}
use Rattle.asl_session.specs.ReplyLines.{answer_line}
use Rattle.asl_session.specs.declared.command.Command.{Command}
use Rattle.asl_session.specs.declared.command.Command.TheVariants as command
use Rattle.asl_session_repl.specs.declared.request.Request.TheVariants.{Told}
use Rattle.asl_session_repl.specs.Words.{name_of}
use Rattle.asl_session_repl.specs.Requests.{IsRequest}
use Rattle.asl_session_repl.specs.Answers.{answer_to, after}
use Rattle.asl_session_repl.specs.Laws.{request_of, MayBeTyped}

asked : (line : List ℕ) (c : Command) → IsCommandLine line c → IsRequest line (request_of c)
unfolding name_of
asked line (command.Step a) h = subst (λ (l : List ℕ). IsRequest l (request_of (command.Step a))) (sym h.line_is) (record {
  rest = h.rest;
  text_is = refl;
  rest_is = record {
    place_in = h.rest_is.place_in;
    moment = h.rest_is.stamp;
    moment_is = h.rest_is.stamp_is;
    text_is = h.rest_is.text;
  };
})
asked line (command.Break n) h = subst (λ (l : List ℕ). IsRequest l (Told (command.Break n))) (sym (rw h.rest_is.quoted at h.line_is)) (rw (rw h.rest_is.quoted at h.line_is) at h)
asked line (command.Clear n) h = subst (λ (l : List ℕ). IsRequest l (Told (command.Clear n))) (sym (rw h.rest_is.quoted at h.line_is)) (rw (rw h.rest_is.quoted at h.line_is) at h)
asked line (command.Resume p) h = subst (λ (l : List ℕ). IsRequest l (Told (command.Resume p))) (sym h.line_is) (rw h.line_is at h)
asked line (command.Show p) h = subst (λ (l : List ℕ). IsRequest l (Told (command.Show p))) (sym h.line_is) (rw h.line_is at h)
asked line (command.Back n) h = subst (λ (l : List ℕ). IsRequest l (Told (command.Back n))) (sym h.line_is) (rw h.line_is at h)

answered : (c : Command) (h : Bool) (s : Session) → (answer_to h s (request_of c) ≡ answer_line (reply_to s c)) × (after h s (request_of c) ≡ next_session s c)
answered (command.Step a) h s = (refl, refl)
answered (command.Break n) h s = (refl, refl)
answered (command.Clear n) h s = (refl, refl)
answered (command.Resume p) h s = (refl, refl)
answered (command.Show p) h s = (refl, refl)
answered (command.Back n) h s = (refl, refl)

pub may-be-typed : MayBeTyped
may-be-typed line c h = (asked line c h, answered c)
