-- What a line comes to.
use Rattle.std.proofs.Common.{◌≡◌, ◌∙◌, ◌++◌, ap, List, ℕ, Option, Result, Ok, Err, IfOk, OnOk}
use Rattle.std.specs.Prelude.{string_bytes}
use Rattle.asl_session_repl.specs.declared.console.Answer.{Answer}
use Rattle.asl_session_repl.specs.declared.request.Request.{Request}
use Rattle.asl_session_repl.specs.Requests.{IsRequest}
use Rattle.asl_session_repl.specs.Answers.{Console, started, answer_to, next_console, is_quit, is_refused, swap_line, swap_text, IsAnswer, Obeyed, IsRefusedLine, Asks}
use Rattle.asl_run_state.specs.World.{World}
use Rattle.asl_run_input.specs.declared.setup.Setup.{Setup}
use Rattle.asl_run_input.specs.declared.step_at.StepAt.{StepAt}
use Rattle.asl_exec.specs.Exchanges.{obstacle_to}
use Rattle.asl_exec.specs.declared.obstacle.Obstacle.{Obstacle}
use Rattle.asl_session.specs.Sessions.{Session, world_in}

-- a request was carried out
pub obeyed : {E : Type 0} (r : Result Answer E) (c d : Console) (line : List ℕ) (q : Request) → IsRequest line q
    → IfOk r (λ a. string_bytes a.text ≡ answer_to c.halting (started c q) q) → IfOk r (λ a. a.quits ≡ is_quit q) → OnOk r (d ≡ next_console c q)
    → IfOk r (λ a. IsAnswer c line (string_bytes a.text) a.quits d)
obeyed (Ok a) c d line q asks text quits next = Obeyed q asks text quits next
obeyed (Err e) c d line q asks text quits next = text

-- and whether it was refused
pub asked : {E : Type 0} (r : Result Answer E) (c : Console) (line : List ℕ) (q : Request) → IsRequest line q
    → IfOk r (λ a. a.refused ≡ is_refused (started c q) q) → IfOk r (λ a. IsRefusedLine c line a.refused)
asked (Ok a) c line q asks refused = Asks q asks refused
asked (Err e) c line q asks refused = refused

-- what is told of two steps is told of the session's setup and world
pub swapped : {E : Type 0} (r : Result Unit E) (new old : List ℕ) (s : Session) (setup : Setup) (w : World) (a b : StepAt) (o : Option Obstacle)
    → o ≡ obstacle_to setup w a b → setup ≡ s.setup → w ≡ world_in s → OnOk r (new ≡ old ++ swap_line o) → OnOk r (new ≡ old ++ swap_text s a b)
swapped (Ok x) new old s setup w a b o e f g h = h ∙ ap (λ (p : Option Obstacle). old ++ swap_line p) (e ∙ ap (λ (z : Setup). obstacle_to z w a b) f ∙ ap (λ (v : World). obstacle_to s.setup v a b) g)
swapped (Err x) new old s setup w a b o e f g h = h
