-- Machines inside states and the outermost one: what they show, over the states of the table.
use Rattle.std.specs.Prelude.{ℕ, ◌+◌, ◌≤◌, List, [], ◌∷◌, Option, Some, codes, map, take, drop, option_map}
use Rattle.asl_json_data.specs.Data.{Data, number, text, dict, pairs}
use Rattle.asl_def_schema.specs.Canon.{Named}
use Rattle.asl_def_fields.specs.declared.processor.ProcessorConfig.{ProcessorConfig}
use Rattle.asl_def_fields.specs.Shown.{config_shown}
use Rattle.asl_def_shared.specs.declared.body.Body.{Body}
use Rattle.asl_def_shared.specs.declared.heading.Heading.{Heading}
use Rattle.asl_def_shared.specs.Parts.{Slots, object}

-- the machine whose states have these numbers
abbrev pub body_members : List Named → Body → Slots
body_members t b =
    (codes "Comment", option_map text b.comment) ∷ (codes "StartAt", Some (text b.start.name))
    ∷ (codes "States", Some (dict (pairs (take b.count (drop b.first t))))) ∷ []

abbrev pub body_of : List Named → Body → Data
body_of t b = object (body_members t b)

-- and the one of an ItemProcessor, with its configuration
abbrev pub processor_members : List Named → Option ProcessorConfig → Body → Slots
processor_members t c b =
    (codes "Comment", option_map text b.comment)
    ∷ (codes "ProcessorConfig", option_map config_shown c)
    ∷ (codes "StartAt", Some (text b.start.name))
    ∷ (codes "States", Some (dict (pairs (take b.count (drop b.first t))))) ∷ []

abbrev pub processor_of : List Named → Option ProcessorConfig → Body → Data
processor_of t c b = object (processor_members t c b)

-- the outermost machine
abbrev pub machine_members : List Named → Heading → Body → Slots
machine_members t h b =
    (codes "Comment", option_map text b.comment)
    ∷ (codes "QueryLanguage", option_map text h.query_language)
    ∷ (codes "Version", option_map text h.version) ∷ (codes "StartAt", Some (text b.start.name))
    ∷ (codes "TimeoutSeconds", option_map number h.timeout)
    ∷ (codes "States", Some (dict (pairs (take b.count (drop b.first t))))) ∷ []

abbrev pub machine_of : List Named → Heading → Body → Data
machine_of t h b = object (machine_members t h b)

abbrev pub bodies_of : List Named → List Body → List Data
bodies_of t bs = map (body_of t) bs

-- ---- the table

-- the states of a machine stand among the first n
abbrev pub IsWithin : ℕ → Body → Type 0
IsWithin n b = b.first + b.count ≤ n

abbrev pub AreWithin : ℕ → List Body → Type 0
AreWithin n [] = Unit {0}
AreWithin n (b ∷ bs) = IsWithin n b × AreWithin n bs
