-- What a session is shown to be: its branches, data and events.
use Rattle.std.specs.Prelude.{ℕ, ◌-◌, List, [], ◌∷◌, ◌++◌, length, drop, map, Option, Some, None, codes}
use Rattle.std.specs.List.{flat_map}
use Rattle.asl_json_data.specs.Data.{Data, text}
use Rattle.asl_json.specs.View.{data_of}
use Rattle.asl_json_data.specs.Compact.{compact}
use Rattle.asl_history.specs.Lines.{history_text}
use Rattle.asl_history.specs.Places.{place_text}
use Rattle.asl_step.specs.Records.{state_in}
use Rattle.asl_step.specs.Rows.{error_output}
use Rattle.asl_step.specs.declared.record.Record.{Record}
use Rattle.asl_step.specs.declared.record.Record.TheVariants.{New, Ready, Pausing, Again, Forked, Done, Failed}
use Rattle.asl_run_branches.specs.Branches.{record_at}
use Rattle.asl_run_branches.specs.Trees.{Held, Family}
use Rattle.asl_run_input.specs.declared.step_at.StepAt.{StepAt}
use Rattle.asl_session.specs.Sessions.{Session, world_in, reply_to}
use Rattle.asl_session.specs.ReplyLines.{answer_line}
use Rattle.asl_session.specs.declared.command.Command.TheVariants.{Step}

-- ---- branches

unfoldable pub kind_word : Record → List ℕ
kind_word (New n x) = codes "New"
kind_word (Ready n x) = codes "Ready"
kind_word (Pausing n x since until) = codes "Pausing"
kind_word (Again n x since uses until) = codes "Again"
kind_word (Forked n x since uses items) = codes "Forked"
kind_word (Done x) = codes "Done"
kind_word (Failed e) = codes "Failed"

abbrev pub state_text : Option (List ℕ) → List ℕ
state_text None = []
state_text (Some n) = 32 ∷ compact (text n)

-- a step of the branch at a place at the last moment
abbrev pub step_now : Session → List ℕ → StepAt
step_now s p = record { place = p; moment = (world_in s).last }

-- the place of a branch, what it is doing, its state, and what a step now would be replied
abbrev pub branch_line : Session → List ℕ → Record → List ℕ
branch_line s p r =
    place_text p
    ++ 32 ∷ (kind_word r ++ (state_text (state_in r)
    ++ 32 ∷ answer_line (reply_to s (Step (step_now s p)))))

-- a line for each branch, in the order of places
abbrev pub places_text : Session → List ℕ
places_text s = flat_map (λ b. branch_line s b.place b.current) (world_in s).branches

-- ---- the same by frames

abbrev pub helds_of : Family → List Held
helds_of f = f.head ∷ map (λ s. s.held) f.below

abbrev pub held_lines : Session → List Held → List ℕ
held_lines s hs = flat_map (λ h. branch_line s h.place h.current) hs

-- ---- data

-- the raw input of a branch, its output, or its error output
abbrev pub data_in : Record → Data
data_in (New n x) = data_of x
data_in (Ready n x) = data_of x
data_in (Pausing n x since until) = data_of x
data_in (Again n x since uses until) = data_of x
data_in (Forked n x since uses items) = data_of x
data_in (Done x) = data_of x
data_in (Failed e) = data_of (error_output e)

abbrev pub data_line : Option Record → List ℕ
data_line None = codes "NoSuchPlace" ++ 10 ∷ []
data_line (Some r) = compact (data_in r) ++ 10 ∷ []

abbrev pub data_text : Session → List ℕ → List ℕ
data_text s p = data_line (record_at p (world_in s).branches)

-- ---- events

-- the lines of the latest events, so many
abbrev pub events_text : ℕ → Session → List ℕ
events_text n s = history_text (drop (length (world_in s).events - n) (world_in s).events)
