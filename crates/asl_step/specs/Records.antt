-- What a record says of its branch.
use Rattle.std.specs.Prelude.{ℕ, Bool, true, false, ◌+◌, List, [], ◌∷◌, replicate, slice_index, slice_set, Option, Some, None, unwrap_or}
use Rattle.asl_json.specs.declared.value.Json.{Json}
use Rattle.asl_step.specs.declared.record.ErrorOut.{ErrorOut}
use Rattle.asl_step.specs.declared.record.Record.{Record}
use Rattle.asl_step.specs.declared.record.Record.TheVariants.{New, Ready, Pausing, Again, Forked, Done, Failed}

abbrev pub is_finished : Record → Bool
is_finished (Done x) = true
is_finished (Failed e) = true
is_finished _ = false

abbrev pub is_failed : Record → Bool
is_failed (Failed e) = true
is_failed _ = false

abbrev pub is_done : Record → Bool
is_done (Done x) = true
is_done _ = false

-- the state that a branch is in; none where it has ended
abbrev pub state_in : Record → Option (List ℕ)
state_in (New n x) = Some n
state_in (Ready n x) = Some n
state_in (Pausing n x since until) = Some n
state_in (Again n x since uses until) = Some n
state_in (Forked n x since uses items) = Some n
state_in (Done x) = None
state_in (Failed e) = None

-- the name of an error; empty where it has none
abbrev pub error_name : ErrorOut → List ℕ
error_name e = unwrap_or e.error []

-- the name of that state; empty where the branch has ended
abbrev pub name_in : Record → List ℕ
name_in r = unwrap_or (state_in r) []

-- the raw input of a state that is about to be entered
abbrev pub entering_with : Record → Option Json
entering_with (New n x) = Some x
entering_with (Ready n x) = Some x
entering_with _ = None

-- the raw input of a state that is about to be entered, or to be retried
abbrev pub beginning_with : Record → Option Json
beginning_with (New n x) = Some x
beginning_with (Ready n x) = Some x
beginning_with (Again n x since uses until) = Some x
beginning_with _ = None

-- the raw input of a state that pauses
abbrev pub pausing_with : Record → Option Json
pausing_with (Pausing n x since until) = Some x
pausing_with _ = None

-- the moment of the state's first step, where a step is taken at this moment
abbrev pub entered_at : ℕ → Record → ℕ
entered_at now (Pausing n x since until) = since
entered_at now (Again n x since uses until) = since
entered_at now (Forked n x since uses items) = since
entered_at now _ = now

-- how often each retrier of the state was used
abbrev pub uses_in : Record → List ℕ
uses_in (New n x) = []
uses_in (Ready n x) = []
uses_in (Pausing n x since until) = []
uses_in (Again n x since uses until) = uses
uses_in (Forked n x since uses items) = uses
uses_in (Done x) = []
uses_in (Failed e) = []

-- how often each of so many retriers was used: never, where nothing was counted yet
abbrev pub uses_from : ℕ → List ℕ → List ℕ
uses_from n [] = replicate n 0
uses_from n (u ∷ us) = u ∷ us

-- one more use of the retrier of this number
abbrev pub uses_after : ℕ → ℕ → List ℕ → List ℕ
uses_after n i us = slice_set (uses_from n us) i (slice_index (uses_from n us) i + 1)
