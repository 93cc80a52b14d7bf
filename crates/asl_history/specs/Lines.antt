-- The printed history: a line for each event.
use Rattle.std.specs.Prelude.{ℕ, List, [], ◌∷◌, ◌++◌}
use Rattle.std.specs.List.{flat_map}
use Rattle.std.specs.Fmt.{decimal}
use Rattle.asl_json_data.specs.Data.{text}
use Rattle.asl_json.specs.View.{data_of}
use Rattle.asl_json_data.specs.Compact.{compact}
use Rattle.asl_history.specs.declared.event.Event.{Event}
use Rattle.asl_history.specs.Kinds.{kind_name}
use Rattle.asl_history.specs.Places.{place_text}
use Rattle.asl_time.specs.StampText.{stamp_of}

-- what the line tells before the name: id, previous id, stamp, place and kind, a space behind each
abbrev pub head_of : Event → List ℕ
head_of e =
    decimal e.id ++ 32 ∷ [] ++ (decimal e.previous ++ 32 ∷ []) ++ (stamp_of e.at ++ 32 ∷ [])
    ++ (place_text e.place ++ 32 ∷ [])
    ++ (kind_name e.kind ++ 32 ∷ [])

-- the name and the body as compact JSON texts, a space between and a line feed behind
abbrev pub tail_of : Event → List ℕ
tail_of e = compact (text e.name) ++ 32 ∷ [] ++ (compact (data_of e.body) ++ 10 ∷ [])

-- id, previous id, stamp, place, kind, name and body, a space between and a line feed behind
unfoldable pub line_of : Event → List ℕ
line_of e = head_of e ++ tail_of e

-- the lines one after another
abbrev pub history_text : List Event → List ℕ
history_text events = flat_map line_of events
