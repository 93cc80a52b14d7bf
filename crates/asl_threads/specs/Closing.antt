-- When a run is closed, and why it isn't.
use Rattle.std.specs.Prelude.{ℕ, ◌≡◌, ◌<◌, ◌==◌, List, All, Any, count_by}
use Rattle.asl_run_input.specs.declared.setup.Setup.{Setup}
use Rattle.asl_threads.specs.declared.row.Row.{Row}
use Rattle.asl_threads.specs.declared.closing.Cause.{Cause}
use Rattle.asl_threads.specs.declared.closing.Cause.TheVariants.{OtherSetup, Foreign, SeatMissing, Mismatch}
use Rattle.asl_threads.specs.Runs.{SharedView, SeatView, rows_of}

-- what a run was opened with
pub record RunView : Type 0 where
  pub setup : Setup
  pub label : ℕ
  pub seats : ℕ

abbrev pub run_view : Setup → ℕ → ℕ → RunView
run_view setup label seats = record { setup = setup; label = label; seats = seats }

-- what lies behind the lock has the setup and the label that the run was opened with
pub record IsSameRun (run : RunView) (shared : SharedView) : Type 0 where
  pub label : shared.label ≡ run.label
  pub setup : shared.setup ≡ run.setup

abbrev pub AreLabelled : ℕ → List SeatView → Type 0
AreLabelled label seats = All (λ s. s.label ≡ label) seats

-- each number below n is that of a seat
abbrev pub AreAllThere : ℕ → List SeatView → Type 0
AreAllThere n seats = (k : ℕ) → k < n → Any (λ s. s.number ≡ k) seats

-- the least number below n that no seat has
pub record IsLeastMissing (n : ℕ) (seats : List SeatView) (k : ℕ) : Type 0 where
  pub below : k < n
  pub missing : ¬ Any (λ s. s.number ≡ k) seats
  pub least : AreAllThere k seats

-- the seat's number is below n, no other seat has it, and its list is that of the rows with it
pub record Agrees (n : ℕ) (rows : List Row) (seats : List SeatView) (s : SeatView) : Type 0 where
  pub below : s.number < n
  pub once : count_by (λ t. t.number == s.number) seats ≡ 1
  pub own : s.list ≡ rows_of s.number rows

-- the least number of a seat that doesn't agree
pub record IsLeastMismatch (n : ℕ) (rows : List Row) (seats : List SeatView) (k : ℕ) : Type 0 where
  pub differs : Any (λ s. (s.number ≡ k) × ¬ Agrees n rows seats s) seats
  pub least : All (λ s. s.number < k → Agrees n rows seats s) seats

-- all of it fits together
pub record IsWhole (run : RunView) (shared : SharedView) (seats : List SeatView) : Type 0 where
  pub same : IsSameRun run shared
  pub labelled : AreLabelled run.label seats
  pub present : AreAllThere run.seats seats
  pub agree : All (Agrees run.seats shared.rows seats) seats

-- the first cause that applies
abbrev pub Refuses : RunView → SharedView → List SeatView → Cause → Type 0
Refuses run shared seats OtherSetup = ¬ IsSameRun run shared
Refuses run shared seats Foreign = IsSameRun run shared × ¬ AreLabelled run.label seats
Refuses run shared seats (SeatMissing k) =
    IsSameRun run shared × AreLabelled run.label seats × IsLeastMissing run.seats seats k
Refuses run shared seats (Mismatch k) =
    IsSameRun run shared × AreLabelled run.label seats × AreAllThere run.seats seats
    × IsLeastMismatch run.seats shared.rows seats k
