-- The states that a run entered.
use Rattle.std.specs.Prelude.{ℕ, Bool, true, false, List, [], ◌∷◌, ◌++◌, if◌then◌else◌}
use Rattle.std.specs.List.{list_any}
use Rattle.std.specs.Str.{bytes_eq}
use Rattle.asl_history.specs.declared.event.Event.{Event}
use Rattle.asl_history.specs.declared.kind.EventKind.{EventKind}
use Rattle.asl_history.specs.declared.kind.EventKind.TheVariants.{PassStateEntered, TaskStateEntered, ChoiceStateEntered, WaitStateEntered, SucceedStateEntered, FailStateEntered, ParallelStateEntered, MapStateEntered}

-- an event of this kind tells that a state was entered
abbrev pub is_entry : EventKind → Bool
is_entry PassStateEntered = true
is_entry TaskStateEntered = true
is_entry ChoiceStateEntered = true
is_entry WaitStateEntered = true
is_entry SucceedStateEntered = true
is_entry FailStateEntered = true
is_entry ParallelStateEntered = true
is_entry MapStateEntered = true
is_entry k = false

-- a name behind others, unless it is among them
abbrev pub with_name : List ℕ → List (List ℕ) → List (List ℕ)
with_name n ns = if list_any (bytes_eq n) ns then ns else ns ++ n ∷ []

abbrev pub entered_by : List (List ℕ) → Event → List (List ℕ)
entered_by ns e = if is_entry e.kind then with_name e.name ns else ns

-- these names, and those of the states that events enter behind them, each once
abbrev pub entered : List (List ℕ) → List Event → List (List ℕ)
entered ns [] = ns
entered ns (e ∷ es) = entered (entered_by ns e) es

-- the names of the states that events enter, in the order in which each is entered first
abbrev pub entered_in : List Event → List (List ℕ)
entered_in es = entered [] es
