-- The events of an execution, and how they are numbered and linked.
use Rattle.std.specs.Prelude.{◌≡◌, ℕ, ◌+◌, max, Bool, ◌||◌, if◌then◌else◌, List, [], ◌∷◌, ◌++◌, length, ⊤}
use Rattle.asl_json.specs.declared.value.Json.{Json}
use Rattle.asl_history.specs.declared.event.Event.{Event}
use Rattle.asl_history.specs.declared.kind.EventKind.{EventKind}
use Rattle.asl_history.specs.Places.{is_prefix}

-- the event is at the place, above it or under it
abbrev pub is_along : List ℕ → Event → Bool
is_along place e = is_prefix e.place place || is_prefix place e.place

-- the greatest id among the events along the place, 0 for none
abbrev pub previous_id : List ℕ → List Event → ℕ
previous_id place [] = 0
previous_id place (e ∷ es) = max (if is_along place e then e.id else 0) (previous_id place es)

-- the event may follow these
pub record IsNext (before : List Event) (e : Event) : Type 0 where
  pub number : e.id ≡ length before + 1
  pub link : e.previous ≡ previous_id e.place before

-- each event may follow those before it
abbrev pub AreLinked : List Event → List Event → Type 0
AreLinked before [] = ⊤
AreLinked before (e ∷ es) = IsNext before e × AreLinked (before ++ e ∷ []) es

-- the events are numbered from 1 and linked
abbrev pub IsHistory : List Event → Type 0
IsHistory events = AreLinked [] events

-- the event that this makes behind these
abbrev pub event_after : List Event → ℕ → EventKind → List ℕ → List ℕ → Json → Event
event_after before at kind place name body = record {
  id = length before + 1;
  previous = previous_id place before;
  at = at;
  kind = kind;
  place = place;
  name = name;
  body = body;
}
