-- The lines that tell of a run: of a step, of the history, and of the outcome.
use Rattle.std.specs.Prelude.{ℕ, List, [], ◌∷◌, ◌++◌, Option, Some, None, Bool, true, false, codes}
use Rattle.asl_json.specs.View.{data_of}
use Rattle.asl_json_data.specs.Compact.{compact}
use Rattle.asl_time.specs.StampText.{stamp_of}
use Rattle.asl_history.specs.Places.{place_text}
use Rattle.asl_history.specs.Lines.{history_text}
use Rattle.asl_step.specs.Rows.{error_output}
use Rattle.asl_run_state.specs.declared.outcome.Outcome.{Outcome}
use Rattle.asl_run_state.specs.declared.outcome.Outcome.TheVariants.{Running, Succeeded, Failed, TimedOut}
use Rattle.asl_run_state.specs.declared.refusal.Refusal.{Refusal}
use Rattle.asl_run_state.specs.declared.refusal.Refusal.TheVariants.{Over, NoSuchPlace, Stopped, Finished, Busy, Slots, NotYet, HistoryFull, OutOfMemory}
use Rattle.asl_run_state.specs.World.{World, timeout_error}

-- number and name
abbrev pub refusal_words : Refusal → List ℕ
refusal_words Over = codes "S1 Over"
refusal_words NoSuchPlace = codes "S2 NoSuchPlace"
refusal_words Stopped = codes "S3 Stopped"
refusal_words Finished = codes "S4 Finished"
refusal_words Busy = codes "S5 Busy"
refusal_words Slots = codes "S6 Slots"
refusal_words (NotYet until) = codes "S7 NotYet"
refusal_words HistoryFull = codes "S8 HistoryFull"
refusal_words OutOfMemory = codes "S9 OutOfMemory"

-- the moment that a refused branch waits for
abbrev pub awaited : Refusal → Option ℕ
awaited (NotYet until) = Some until
awaited _ = None

abbrev pub with_stamp : List ℕ → Option ℕ → List ℕ
with_stamp words None = words
with_stamp words (Some until) = words ++ 32 ∷ stamp_of until

-- number and name, and the moment that is waited for
abbrev pub refusal_text : Refusal → List ℕ
refusal_text r = with_stamp (refusal_words r) (awaited r)

-- `ok`, or why the step was refused
abbrev pub reply_text : Option Refusal → List ℕ
reply_text None = codes "ok"
reply_text (Some r) = refusal_text r

-- `step`, the place and the reply, a space between and a line feed behind
abbrev pub step_line : List ℕ → Option Refusal → List ℕ
step_line p r = codes "step " ++ (place_text p ++ 32 ∷ (reply_text r ++ 10 ∷ []))

abbrev pub status_text : Outcome → List ℕ
status_text Running = codes "status RUNNING"
status_text (Succeeded x) = codes "status SUCCEEDED " ++ compact (data_of x)
status_text (Failed e) = codes "status FAILED " ++ compact (data_of (error_output e))
status_text TimedOut = codes "status TIMED_OUT " ++ compact (data_of (error_output timeout_error))

-- the status, and the output or the error output
abbrev pub status_line : Outcome → List ℕ
status_line o = status_text o ++ 10 ∷ []

-- the history and the status
abbrev pub end_text : World → List ℕ
end_text w = history_text w.events ++ status_line w.outcome

abbrev pub is_success : Outcome → Bool
is_success (Succeeded x) = true
is_success _ = false
