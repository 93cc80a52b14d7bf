-- Answers that tell of steps by the tree.
use Rattle.std.proofs.Common.{ℕ, Bool, ◌≡◌, ◌<◌, ◌≤◌, List, length, sym, ◌∙◌, subst}
use Rattle.std.specs.Prelude.{nat_lt}
use Rattle.std.proofs.lemmas.Bool.{lt-ltb, le-ltb}
use Rattle.asl_run_input.specs.declared.step_at.StepAt.{StepAt}
use Rattle.asl_session.specs.Sessions.{Session}
use Rattle.asl_session_repl.specs.declared.telling.Look.{Look}
use Rattle.asl_session_repl.specs.Answers.{Console, IsAnswer}
use Rattle.asl_session_repl.specs.Telling.{takes_back, told_back, IsToldOf, IsToldBy, IsTold}

-- a line that took steps, and one that took none
pub told_steps : (look : Look) (c d : Console) (line t text : List ℕ) (quits : Bool) → length c.session.steps < length d.session.steps → IsAnswer c line t quits d → IsToldOf look (length c.session.steps) d.session text → IsTold look c line text quits d
told_steps look c d line t text quits lt a h = (t, a, subst (λ (b : Bool). IsToldBy b look c t d text) (sym (lt-ltb (length c.session.steps) (length d.session.steps) lt)) h)

pub told_none : (look : Look) (c d : Console) (line t text : List ℕ) (quits : Bool) → length d.session.steps ≤ length c.session.steps → IsAnswer c line t quits d → text ≡ told_back (takes_back c d) t d.session → IsTold look c line text quits d
told_none look c d line t text quits le a told = (t, a, subst (λ (b : Bool). IsToldBy b look c t d text) (sym (le-ltb (length c.session.steps) (length d.session.steps) le)) told)

-- the same of a line that changed the session from c to d, by what is known of both
pub told_more : (look : Look) (b c d e : Console) (line t text : List ℕ) (quits : Bool) (before after : List StepAt) → b ≡ c → e ≡ d → before ≡ b.session.steps → after ≡ d.session.steps → length before < length after → IsAnswer b line t quits d → IsToldOf look (length before) d.session text → IsTold look c line text quits e
told_more look b c d e line t text quits before after f g h k lt a told =
    let more : length b.session.steps < length d.session.steps = subst (λ (l : List StepAt). length b.session.steps < length l) k (subst (λ (l : List StepAt). length l < length after) h lt) in
    let lines : IsToldOf look (length b.session.steps) d.session text = subst (λ (l : List StepAt). IsToldOf look (length l) d.session text) h told in
    subst (λ (x : Console). IsTold look x line text quits e) f (subst (λ (x : Console). IsTold look b line text quits x) (sym g) (told_steps look b d line t text quits more a lines))

pub told_no_more : (look : Look) (b c d : Console) (line t text : List ℕ) (quits : Bool) (before after : List StepAt) (s : Session) → b ≡ c → before ≡ b.session.steps → after ≡ d.session.steps → s ≡ d.session → length after ≤ length before → IsAnswer b line t quits d → text ≡ told_back (nat_lt (length after) (length before)) t s → IsTold look c line text quits d
told_no_more look b c d line t text quits before after s f h k e le a told =
    let few : length d.session.steps ≤ length b.session.steps = subst (λ (l : List StepAt). length l ≤ length b.session.steps) k (subst (λ (l : List StepAt). length after ≤ length l) h le) in
    let here : text ≡ told_back (takes_back b d) t d.session = told ∙ (λ i. told_back (nat_lt (length (k i)) (length (h i))) t (e i)) in
    subst (λ (x : Console). IsTold look x line text quits d) f (told_none look b d line t text quits few a here)
