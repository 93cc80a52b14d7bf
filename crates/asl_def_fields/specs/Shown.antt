-- What compiled members show: the values that they were read from.
use Rattle.std.specs.Prelude.{ℕ, List, [], ◌∷◌, Option, Some, None, codes, map, option_map}
use Rattle.asl_json_data.specs.Data.{Data, null, number, text, list, dict, chain, pairs}
use Rattle.asl_def_schema.specs.Canon.{present}
use Rattle.asl_def_fields.specs.declared.path.PathField.{PathField}
use Rattle.asl_def_fields.specs.declared.path.PathField.TheVariants.{Whole, Nowhere, At}
use Rattle.asl_def_fields.specs.declared.path.PathOrCall.{PathOrCall}
use Rattle.asl_def_fields.specs.declared.path.PathOrCall.TheVariants.{Path, Call}
use Rattle.asl_def_fields.specs.declared.jitter.JitterStrategy.{JitterStrategy}
use Rattle.asl_def_fields.specs.declared.jitter.JitterStrategy.TheVariants as jitter
use Rattle.asl_def_fields.specs.declared.processor.Mode.{Mode}
use Rattle.asl_def_fields.specs.declared.processor.Mode.TheVariants.{Inline}
use Rattle.asl_def_fields.specs.declared.processor.ProcessorConfig.{ProcessorConfig}
use Rattle.asl_def_fields.specs.declared.retry.Retrier.{Retrier}

abbrev pub path_shown : PathField → Option Data
path_shown Whole = None
path_shown Nowhere = Some null
path_shown (At p) = Some (text p)

abbrev pub path_or_call_shown : PathOrCall → Data
path_or_call_shown (Path p) = text p
path_or_call_shown (Call c) = text c

abbrev pub jitter_shown : JitterStrategy → Data
jitter_shown jitter.Full = text (codes "FULL")
jitter_shown jitter.None = text (codes "NONE")

abbrev pub mode_shown : Mode → Data
mode_shown Inline = text (codes "INLINE")

abbrev pub config_shown : ProcessorConfig → Data
config_shown c = dict (pairs (present ((codes "Mode", option_map mode_shown c.mode) ∷ [])))

-- the names of errors
abbrev pub names_shown : List (List ℕ) → Data
names_shown ns = list (chain (map text ns))

-- the canonical members of a retrier
abbrev pub retrier_members : Retrier → List (List ℕ × Option Data)
retrier_members r =
    (codes "Comment", option_map text r.comment)
    ∷ (codes "ErrorEquals", Some (names_shown r.errors))
    ∷ (codes "IntervalSeconds", option_map number r.interval)
    ∷ (codes "MaxAttempts", option_map number r.attempts)
    ∷ (codes "BackoffRate", option_map number r.rate)
    ∷ (codes "MaxDelaySeconds", option_map number r.delay_limit)
    ∷ (codes "JitterStrategy", option_map jitter_shown r.jitter) ∷ []

abbrev pub retrier_object : Retrier → Data
retrier_object r = dict (pairs (present (retrier_members r)))

abbrev pub retrier_objects : List Retrier → List Data
retrier_objects rs = map retrier_object rs
