-- What the parts of states show.
use Rattle.std.specs.Prelude.{ℕ, List, [], ◌∷◌, true, Option, Some, None, codes, map, option_map}
use Rattle.asl_json_data.specs.Data.{Data, boolean, number, text, list, dict, chain, pairs}
use Rattle.asl_def_schema.specs.Canon.{present}
use Rattle.asl_def_fields.specs.Shown.{path_shown, names_shown}
use Rattle.asl_def_shared.specs.declared.target.Target.{Target}
use Rattle.asl_def_shared.specs.declared.target.Transition.{Transition}
use Rattle.asl_def_shared.specs.declared.target.Transition.TheVariants.{End, To}
use Rattle.asl_def_shared.specs.declared.limits.TimeLimits.{TimeLimits}
use Rattle.asl_def_shared.specs.declared.catcher.Catcher.{Catcher}
use Rattle.asl_def_shared.specs.declared.common.Common.{Common}
use Rattle.asl_def_shared.specs.declared.completion.Completion.{Completion}

-- the members that an object may have, with their values where they are there
abbrev pub Slots : Type 0
Slots = List (List ℕ × Option Data)

abbrev pub object : Slots → Data
object ms = dict (pairs (present ms))

abbrev pub target_shown : Target → Data
target_shown x = text x.name

abbrev pub next_shown : Transition → Option Data
next_shown End = None
next_shown (To x) = Some (text x.name)

abbrev pub end_shown : Transition → Option Data
end_shown End = Some (boolean true)
end_shown (To x) = None

abbrev pub next_members : Transition → Slots
next_members n = (codes "Next", next_shown n) ∷ (codes "End", end_shown n) ∷ []

-- how long a task may take
abbrev pub limits_members : TimeLimits → Slots
limits_members l =
    (codes "TimeoutSeconds", option_map number l.timeout)
    ∷ (codes "TimeoutSecondsPath", option_map text l.timeout_path)
    ∷ (codes "HeartbeatSeconds", option_map number l.heartbeat)
    ∷ (codes "HeartbeatSecondsPath", option_map text l.heartbeat_path) ∷ []

-- the canonical members of a catcher
abbrev pub catcher_members : Catcher → Slots
catcher_members c =
    (codes "Comment", option_map text c.comment)
    ∷ (codes "ErrorEquals", Some (names_shown c.errors))
    ∷ (codes "ResultPath", path_shown c.result_path) ∷ (codes "Next", Some (text c.next.name))
    ∷ []

abbrev pub catcher_object : Catcher → Data
catcher_object c = object (catcher_members c)

abbrev pub catcher_objects : List Catcher → List Data
catcher_objects cs = map catcher_object cs

-- ---- what several types of states have

abbrev pub common_members : List ℕ → Common → Slots
common_members kind c =
    (codes "Type", Some (text kind)) ∷ (codes "Comment", option_map text c.comment)
    ∷ (codes "QueryLanguage", option_map text c.query_language) ∷ []

-- a list, where it is there
abbrev pub listed : Option (List Data) → Option Data
listed ds = option_map (λ (xs : List Data). list (chain xs)) ds

abbrev pub completion_members : Completion → Slots
completion_members o =
    (codes "ResultSelector", o.result_selector) ∷ (codes "ResultPath", path_shown o.result_path)
    ∷ (codes "OutputPath", path_shown o.output_path) ∷ (codes "Retry", listed o.retry)
    ∷ (codes "Catch", listed o.catch) ∷ (codes "Next", next_shown o.next)
    ∷ (codes "End", end_shown o.next) ∷ []
