-- The values that members are compiled from.
use Rattle.std.specs.Prelude.{◌≡◌, true, pos, codes}
use Rattle.asl_json_data.specs.Data.{Data, null, boolean, number, text, list, Chain, no_items, item}
use Rattle.asl_json_data.specs.Number.{units_of}
use Rattle.asl_json.specs.Same.{bytes_eq}
use Rattle.asl_json.specs.Whole.{whole_of}
use Rattle.asl_path.specs.Grammar.{IsPath}
use Rattle.asl_def_schema.specs.Demands.{Holds, HasMoment}
use Rattle.asl_def_schema.specs.declared.sort.Sort.TheVariants as sort
use Rattle.asl_def_schema.specs.Claims.{path_or_call, is_between, is_between_whole, is_jitter}
use Rattle.asl_def_schema.specs.Clean.{IsClean}

abbrev pub IsText : Data → Type 0
IsText (text t) = Unit {0}
IsText d = ⊥

abbrev pub IsTruth : Data → Type 0
IsTruth (boolean b) = Unit {0}
IsTruth d = ⊥

abbrev pub IsNumeric : Data → Type 0
IsNumeric (number n) = Unit {0}
IsNumeric d = ⊥

abbrev pub IsPathText : Data → Type 0
IsPathText (text t) = IsPath t
IsPathText d = ⊥

abbrev pub IsPathOrCall : Data → Type 0
IsPathOrCall (text t) = Holds (path_or_call t)
IsPathOrCall d = ⊥

abbrev pub IsPathOrNull : Data → Type 0
IsPathOrNull null = Unit {0}
IsPathOrNull (text t) = IsPath t
IsPathOrNull d = ⊥

-- a whole number from 0 to 99,999,999
abbrev pub IsCount : Data → Type 0
IsCount (number n) = is_between_whole (pos 0) (pos 99999999) (whole_of n) ≡ true
IsCount d = ⊥

-- a number from 1 to 1000
abbrev pub IsRate : Data → Type 0
IsRate (number n) = is_between (pos 1000000000) (pos 1000000000000) (units_of n) ≡ true
IsRate d = ⊥

-- a whole number from 1 to 31,622,399
abbrev pub IsDelayLimit : Data → Type 0
IsDelayLimit (number n) = is_between_whole (pos 1) (pos 31622399) (whole_of n) ≡ true
IsDelayLimit d = ⊥

-- FULL or NONE
abbrev pub IsJitter : Data → Type 0
IsJitter (text t) = is_jitter t ≡ true
IsJitter d = ⊥

-- INLINE
abbrev pub IsMode : Data → Type 0
IsMode (text t) = bytes_eq t (codes "INLINE") ≡ true
IsMode d = ⊥

-- an object with at most a Mode
abbrev pub IsProcessorConfig : Data → Type 0
IsProcessorConfig d = IsClean sort.ProcessorConfig d

abbrev pub IsStamp : Data → Type 0
IsStamp (text t) = HasMoment t
IsStamp d = ⊥

-- each item is such a value
abbrev pub Each : (Data → Type 0) → Chain → Type 0
Each P no_items = Unit {0}
Each P (item d ds) = P d × Each P ds

abbrev pub AreNames : Data → Type 0
AreNames (list ds) = Each IsText ds
AreNames d = ⊥
