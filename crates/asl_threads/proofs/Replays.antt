-- A history goes on by one row.
use Rattle.std.proofs.Common.{◌≡◌, List, [], ◌∷◌, ◌++◌, refl, ◌∙◌, sym, ap, subst}
use Rattle.asl_run_input.specs.declared.setup.Setup.{Setup}
use Rattle.asl_session.specs.Sessions.{Session, opened, changed, reply_to, next_session, session_after}
use Rattle.asl_session.specs.declared.command.Command.{Command}
use Rattle.asl_session.specs.declared.command.Command.TheVariants.{Step, Break, Clear, Resume, Back}
use Rattle.asl_session.specs.declared.reply.Reply.{Reply}
use Rattle.asl_session.specs.declared.reply.Reply.TheVariants.{Stepped, Set, Cleared, Resumed, WentBack}
use Rattle.asl_threads.specs.Runs.{IsLegal, commands_of, IsReplay}
use Rattle.asl_threads.specs.declared.row.Row.{Row}

after-snoc : (s : Session) (rows : List Row) (r : Row) → session_after s (commands_of (rows ++ r ∷ [])) ≡ next_session (session_after s (commands_of rows)) r.command
after-snoc s [] r = refl
after-snoc s (q ∷ rows) r = after-snoc (next_session s q.command) rows r

legal-snoc : (s : Session) (rows : List Row) (r : Row) → IsLegal s rows → r.reply ≡ reply_to (session_after s (commands_of rows)) r.command → IsLegal s (rows ++ r ∷ [])
legal-snoc s [] r legal h = (h, tt)
legal-snoc s (q ∷ rows) r legal h = (legal.0, legal-snoc (next_session s q.command) rows r legal.1 h)

replay-snoc : (setup : Setup) (rows : List Row) (s t : Session) (r : Row) → IsReplay setup rows s → r.reply ≡ reply_to s r.command → t ≡ next_session s r.command → IsReplay setup (rows ++ r ∷ []) t
replay-snoc setup rows s t r h replied moved = record {
  legal = legal-snoc (opened setup) rows r h.legal (subst (λ (w : Session). r.reply ≡ reply_to w r.command) h.session_is replied);
  session_is = moved ∙ (ap (λ (w : Session). next_session w r.command) h.session_is ∙ sym (after-snoc (opened setup) rows r));
}

changed-setup : (s : Session) (c : Command) (r : Reply) → (changed s c r).setup ≡ s.setup
changed-setup s (Step a) Stepped = refl
changed-setup s (Break n) Set = refl
changed-setup s (Clear n) Cleared = refl
changed-setup s (Resume p) Resumed = refl
changed-setup s (Back n) (WentBack left) = refl
changed-setup s c r = refl

-- a command leaves what the session began with
pub setup-next : (s : Session) (c : Command) → (next_session s c).setup ≡ s.setup
setup-next s c = changed-setup s c (reply_to s c)

pub replay-grows : (rows rows' : List Row) (s t : Session) (r : Row) → IsReplay s.setup rows s → r.reply ≡ reply_to s r.command → t ≡ next_session s r.command → rows' ≡ rows ++ r ∷ [] → IsReplay t.setup rows' t
replay-grows rows rows' s t r h replied moved grown =
    let same : t.setup ≡ s.setup = ap (λ (w : Session). w.setup) moved ∙ setup-next s r.command in
    let new : IsReplay s.setup (rows ++ r ∷ []) t = replay-snoc s.setup rows s t r h replied moved in
    subst (λ (u : Setup). IsReplay u rows' t) (sym same) (subst (λ (q : List Row). IsReplay s.setup q t) (sym grown) new)
