-- What closing a run answers.
use Rattle.std.specs.Prelude.{◌≡◌, List, Result, MatchResult}
use Rattle.asl_threads.specs.declared.run.Run.{Run}
use Rattle.asl_threads.specs.declared.closing.RunRecord.{RunRecord}
use Rattle.asl_threads.specs.declared.closing.CloseFault.{CloseFault}
use Rattle.asl_threads.specs.Runs.{SharedView, SeatView, IsReplay, session_of}
use Rattle.asl_threads.specs.Closing.{RunView, run_view, IsWhole, Refuses}

-- what a run was opened with, whatever its lock
abbrev pub opened_with : {L : Type 0} → Run L → RunView
opened_with r = run_view r.setup r.label r.seats

-- one legal list of rows, in which the rows of each seat's number are its list
pub record IsRecordOf (run : RunView) (seats : List SeatView) (r : RunRecord) : Type 0 where
  pub replay : IsReplay run.setup r.rows.items r.session
  pub whole : IsWhole run
      (record { label = run.label; setup = run.setup; rows = r.rows.items }) seats

-- what is handed back where a run isn't closed: the cause, the seats, and the run with the same in
-- its lock
pub record IsHandedBack {L : Type 0} (holds : L → SharedView → Type 0) (run : RunView) (shared : SharedView) (seats : List SeatView) (f : CloseFault L) : Type 0 where
  pub cause : Refuses run shared seats f.cause
  pub run_is : opened_with f.run ≡ run
  pub holds_it : holds f.run.state shared
  pub seats_are : f.seats.items ≡ seats

-- with this in its lock a run ends with a record of it, exactly where all fits together; else with
-- the first cause that applies, and all is handed back
abbrev pub Ends : {L : Type 0} → (L → SharedView → Type 0) → RunView → SharedView → List SeatView → Result RunRecord (CloseFault L) → Type 0
Ends holds run shared seats result =
    IsReplay shared.setup shared.rows (session_of shared)
    × MatchResult result
    (λ r. (r.rows.items ≡ shared.rows) × (r.session ≡ session_of shared)
    × IsWhole run shared seats)
    (IsHandedBack holds run shared seats)

-- what lay in its lock is that with which it ends so
abbrev pub Closes : {L : Type 0} → (L → SharedView → Type 0) → Run L → List SeatView → Result RunRecord (CloseFault L) → Type 0
Closes holds run seats result =
    (shared : SharedView) × holds run.state shared × Ends holds (opened_with run) shared seats result
