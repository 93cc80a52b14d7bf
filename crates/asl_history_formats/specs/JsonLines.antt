-- A history as lines of JSON: an object for each event.
use Rattle.std.specs.Prelude.{ℕ, List, [], ◌∷◌, ◌++◌, codes}
use Rattle.std.specs.List.{flat_map}
use Rattle.std.specs.Fmt.{decimal}
use Rattle.asl_json.specs.View.{data_of}
use Rattle.asl_json_data.specs.Compact.{compact, quoted}
use Rattle.asl_history.specs.declared.event.Event.{Event}
use Rattle.asl_history.specs.Kinds.{kind_name}
use Rattle.asl_history.specs.Places.{place_text}
use Rattle.asl_time.specs.StampText.{stamp_of}
use Rattle.asl_history_formats.specs.Keys.{stamp_key, previous_key}

abbrev pub json_numbers : Event → List ℕ
json_numbers e = codes "{\"id\":" ++ (decimal e.id ++ (previous_key ++ decimal e.previous))

abbrev pub json_where : Event → List ℕ
json_where e =
    44 ∷ (stamp_key ++ (stamp_of e.at ++ (codes "\",\"place\":\"" ++ place_text e.place)))

abbrev pub json_head : Event → List ℕ
json_head e = json_numbers e ++ json_where e

unfoldable pub json_tail : Event → List ℕ
json_tail e =
    codes "\",\"type\":\"" ++ (kind_name e.kind ++ (codes "\",\"name\":" ++ (quoted e.name
    ++ (codes ",\"body\":" ++ (compact (data_of e.body) ++ (codes "}" ++ 10 ∷ []))))))

-- as {"id":2,"previousEventId":1,"timestamp":STAMP,"place":"/","type":KIND,"name":"P","body":{}}
unfoldable pub json_line : Event → List ℕ
json_line e = json_head e ++ json_tail e

abbrev pub json_lines_text : List Event → List ℕ
json_lines_text events = flat_map json_line events
