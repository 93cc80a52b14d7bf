-- The table of members: what each object of a definition may have, in canonical order.
-- (Amazon States Language, "Top-level fields", "Common State Fields", "State Types", "Errors".)
use Rattle.std.specs.Prelude.{ℕ, List, [], ◌∷◌, ◌++◌, Bool, true, false, ◌||◌, Option, Some, None, is_some, if◌then◌else◌, codes}
use Rattle.asl_json_data.specs.Data.{Data, text, Pairs}
use Rattle.asl_json.specs.Same.{bytes_eq}
use Rattle.asl_json.specs.Meaning.{value_at}
use Rattle.asl_template.specs.Names.{name_before}
use Rattle.asl_def_schema.specs.declared.sort.Sort.{Sort}
use Rattle.asl_def_schema.specs.declared.sort.Sort.TheVariants.{Definition, Machine, ItemProcessor, ProcessorConfig, Mode, Machines, States, State, KindName, Version, QueryLanguage, Text, Truth, Target, Path, PathOrNull, PlaceOrNull, PathOrCall, Timestamp, Number, FromZero, FromOne, Rate, DelayLimit, Jitter, Rules, Rule, InnerRules, InnerRule, Retriers, Retrier, Catchers, Catcher, ErrorNames, Template, Computed, Any, Unsupported, Unknown}
use Rattle.asl_def_schema.specs.declared.sort.Kind.{Kind}
use Rattle.asl_def_schema.specs.declared.sort.Kind.TheVariants as kind

-- a member that an object may have; it is required, or required beside any of some others, or not
pub record Row : Type 0 where
  pub name : List ℕ
  pub required : Bool
  pub users : List (List ℕ)
  pub sort : Sort

abbrev pub required : List ℕ → Sort → Row
required k s = record { name = k; required = true; users = []; sort = s }

abbrev pub optional : List ℕ → Sort → Row
optional k s = record { name = k; required = false; users = []; sort = s }

abbrev pub beside : List (List ℕ) → List ℕ → Sort → Row
beside ls k s = record { name = k; required = false; users = ls; sort = s }

unfoldable pub definition_rows : List Row
definition_rows =
    optional (codes "Comment") Text
    ∷ optional (codes "QueryLanguage") QueryLanguage
    ∷ optional (codes "Version") Version
    ∷ required (codes "StartAt") Target
    ∷ optional (codes "TimeoutSeconds") FromOne
    ∷ required (codes "States") States
    ∷ []

unfoldable pub machine_rows : List Row
machine_rows =
    optional (codes "Comment") Text
    ∷ required (codes "StartAt") Target
    ∷ required (codes "States") States
    ∷ []

-- of a Map, in the newer spelling
unfoldable pub item_processor_rows : List Row
item_processor_rows =
    optional (codes "Comment") Text
    ∷ optional (codes "ProcessorConfig") ProcessorConfig
    ∷ required (codes "StartAt") Target
    ∷ required (codes "States") States
    ∷ []

unfoldable pub processor_config_rows : List Row
processor_config_rows =
    optional (codes "Mode") Mode
    ∷ []

unfoldable pub untyped_rows : List Row
untyped_rows =
    required (codes "Type") KindName
    ∷ []

-- every state
abbrev pub common_rows : List Row
common_rows =
    required (codes "Type") KindName
    ∷ optional (codes "Comment") Text
    ∷ optional (codes "QueryLanguage") QueryLanguage
    ∷ []

unfoldable pub task_rows : List Row
task_rows =
    required (codes "Resource") Text
    ∷ optional (codes "InputPath") PathOrNull
    ∷ optional (codes "Parameters") Template
    ∷ optional (codes "Credentials") Any
    ∷ optional (codes "TimeoutSeconds") FromOne
    ∷ optional (codes "TimeoutSecondsPath") Path
    ∷ optional (codes "HeartbeatSeconds") FromOne
    ∷ optional (codes "HeartbeatSecondsPath") Path
    ∷ optional (codes "ResultSelector") Template
    ∷ optional (codes "ResultPath") PlaceOrNull
    ∷ optional (codes "OutputPath") PathOrNull
    ∷ optional (codes "Retry") Retriers
    ∷ optional (codes "Catch") Catchers
    ∷ optional (codes "Next") Target
    ∷ optional (codes "End") Truth
    ∷ []

unfoldable pub pass_rows : List Row
pass_rows =
    optional (codes "InputPath") PathOrNull
    ∷ optional (codes "Parameters") Template
    ∷ optional (codes "Result") Any
    ∷ optional (codes "ResultPath") PlaceOrNull
    ∷ optional (codes "OutputPath") PathOrNull
    ∷ optional (codes "Next") Target
    ∷ optional (codes "End") Truth
    ∷ []

unfoldable pub choice_rows : List Row
choice_rows =
    optional (codes "InputPath") PathOrNull
    ∷ required (codes "Choices") Rules
    ∷ optional (codes "Default") Target
    ∷ optional (codes "OutputPath") PathOrNull
    ∷ []

unfoldable pub wait_rows : List Row
wait_rows =
    optional (codes "InputPath") PathOrNull
    ∷ optional (codes "Seconds") FromZero
    ∷ optional (codes "SecondsPath") Path
    ∷ optional (codes "Timestamp") Timestamp
    ∷ optional (codes "TimestampPath") Path
    ∷ optional (codes "OutputPath") PathOrNull
    ∷ optional (codes "Next") Target
    ∷ optional (codes "End") Truth
    ∷ []

unfoldable pub parallel_rows : List Row
parallel_rows =
    optional (codes "InputPath") PathOrNull
    ∷ optional (codes "Parameters") Template
    ∷ required (codes "Branches") Machines
    ∷ optional (codes "ResultSelector") Template
    ∷ optional (codes "ResultPath") PlaceOrNull
    ∷ optional (codes "OutputPath") PathOrNull
    ∷ optional (codes "Retry") Retriers
    ∷ optional (codes "Catch") Catchers
    ∷ optional (codes "Next") Target
    ∷ optional (codes "End") Truth
    ∷ []

unfoldable pub map_rows : List Row
map_rows =
    optional (codes "InputPath") PathOrNull
    ∷ optional (codes "ItemsPath") Path
    ∷ optional (codes "MaxConcurrency") FromZero
    ∷ optional (codes "Parameters") Template
    ∷ optional (codes "ItemSelector") Template
    ∷ optional (codes "Iterator") Machine
    ∷ optional (codes "ItemProcessor") ItemProcessor
    ∷ optional (codes "ResultSelector") Template
    ∷ optional (codes "ResultPath") PlaceOrNull
    ∷ optional (codes "OutputPath") PathOrNull
    ∷ optional (codes "Retry") Retriers
    ∷ optional (codes "Catch") Catchers
    ∷ optional (codes "Next") Target
    ∷ optional (codes "End") Truth
    ∷ []

unfoldable pub succeed_rows : List Row
succeed_rows =
    optional (codes "InputPath") PathOrNull
    ∷ optional (codes "OutputPath") PathOrNull
    ∷ []

unfoldable pub fail_rows : List Row
fail_rows =
    optional (codes "Error") Text
    ∷ optional (codes "ErrorPath") PathOrCall
    ∷ optional (codes "Cause") Text
    ∷ optional (codes "CausePath") PathOrCall
    ∷ []

unfoldable pub test_rows : List Row
test_rows =
    optional (codes "StringEquals") Text
    ∷ optional (codes "StringEqualsPath") Path
    ∷ optional (codes "StringLessThan") Text
    ∷ optional (codes "StringLessThanPath") Path
    ∷ optional (codes "StringGreaterThan") Text
    ∷ optional (codes "StringGreaterThanPath") Path
    ∷ optional (codes "StringLessThanEquals") Text
    ∷ optional (codes "StringLessThanEqualsPath") Path
    ∷ optional (codes "StringGreaterThanEquals") Text
    ∷ optional (codes "StringGreaterThanEqualsPath") Path
    ∷ optional (codes "NumericEquals") Number
    ∷ optional (codes "NumericEqualsPath") Path
    ∷ optional (codes "NumericLessThan") Number
    ∷ optional (codes "NumericLessThanPath") Path
    ∷ optional (codes "NumericGreaterThan") Number
    ∷ optional (codes "NumericGreaterThanPath") Path
    ∷ optional (codes "NumericLessThanEquals") Number
    ∷ optional (codes "NumericLessThanEqualsPath") Path
    ∷ optional (codes "NumericGreaterThanEquals") Number
    ∷ optional (codes "NumericGreaterThanEqualsPath") Path
    ∷ optional (codes "TimestampEquals") Timestamp
    ∷ optional (codes "TimestampEqualsPath") Path
    ∷ optional (codes "TimestampLessThan") Timestamp
    ∷ optional (codes "TimestampLessThanPath") Path
    ∷ optional (codes "TimestampGreaterThan") Timestamp
    ∷ optional (codes "TimestampGreaterThanPath") Path
    ∷ optional (codes "TimestampLessThanEquals") Timestamp
    ∷ optional (codes "TimestampLessThanEqualsPath") Path
    ∷ optional (codes "TimestampGreaterThanEquals") Timestamp
    ∷ optional (codes "TimestampGreaterThanEqualsPath") Path
    ∷ optional (codes "BooleanEquals") Truth
    ∷ optional (codes "BooleanEqualsPath") Path
    ∷ optional (codes "StringMatches") Text
    ∷ optional (codes "IsNull") Truth
    ∷ optional (codes "IsPresent") Truth
    ∷ optional (codes "IsNumeric") Truth
    ∷ optional (codes "IsString") Truth
    ∷ optional (codes "IsBoolean") Truth
    ∷ optional (codes "IsTimestamp") Truth
    ∷ []

abbrev pub row_names : List Row → List (List ℕ)
row_names [] = []
row_names (r ∷ rs) = r.name ∷ row_names rs

-- the tests of a rule
unfoldable pub operators : List (List ℕ)
operators = row_names test_rows

unfoldable pub inner_rule_rows : List Row
inner_rule_rows =
    optional (codes "Comment") Text
    ∷ beside operators (codes "Variable") Path
    ∷ optional (codes "And") InnerRules
    ∷ optional (codes "Or") InnerRules
    ∷ optional (codes "Not") InnerRule
    ∷ test_rows

unfoldable pub rule_rows : List Row
rule_rows = inner_rule_rows ++ required (codes "Next") Target ∷ []

unfoldable pub retrier_rows : List Row
retrier_rows =
    optional (codes "Comment") Text
    ∷ required (codes "ErrorEquals") ErrorNames
    ∷ optional (codes "IntervalSeconds") FromOne
    ∷ optional (codes "MaxAttempts") FromZero
    ∷ optional (codes "BackoffRate") Rate
    ∷ optional (codes "MaxDelaySeconds") DelayLimit
    ∷ optional (codes "JitterStrategy") Jitter
    ∷ []

unfoldable pub catcher_rows : List Row
catcher_rows =
    optional (codes "Comment") Text
    ∷ required (codes "ErrorEquals") ErrorNames
    ∷ optional (codes "ResultPath") PlaceOrNull
    ∷ required (codes "Next") Target
    ∷ []

-- members that stand for what isn't supported
unfoldable pub unsupported_names : List (List ℕ)
unsupported_names =
    codes "Assign"
    ∷ codes "Arguments"
    ∷ codes "Output"
    ∷ codes "Items"
    ∷ codes "Condition"
    ∷ codes "ItemReader"
    ∷ codes "ItemBatcher"
    ∷ codes "ResultWriter"
    ∷ codes "ToleratedFailureCount"
    ∷ codes "ToleratedFailureCountPath"
    ∷ codes "ToleratedFailurePercentage"
    ∷ codes "ToleratedFailurePercentagePath"
    ∷ codes "Label"
    ∷ codes "MaxConcurrencyPath"
    ∷ codes "ExecutionType"
    ∷ []

abbrev pub kind_rows : Kind → List Row
kind_rows kind.Task = common_rows ++ task_rows
kind_rows kind.Pass = common_rows ++ pass_rows
kind_rows kind.Choice = common_rows ++ choice_rows
kind_rows kind.Wait = common_rows ++ wait_rows
kind_rows kind.Parallel = common_rows ++ parallel_rows
kind_rows kind.Map = common_rows ++ map_rows
kind_rows kind.Succeed = common_rows ++ succeed_rows
kind_rows kind.Fail = common_rows ++ fail_rows

-- members of which at most one is there, or exactly one
pub record Group : Type 0 where
  pub names : List (List ℕ)
  pub exact : Bool

abbrev pub exactly_one : List (List ℕ) → Group
exactly_one ks = record { names = ks; exact = true }

abbrev pub at_most_one : List (List ℕ) → Group
at_most_one ks = record { names = ks; exact = false }

abbrev pub two : List ℕ → List ℕ → List (List ℕ)
two a b = a ∷ b ∷ []

-- how a state goes on
abbrev pub transition : Group
transition = exactly_one (two (codes "Next") (codes "End"))

abbrev pub wait_time : Group
wait_time =
    exactly_one (codes "Seconds" ∷ codes "SecondsPath" ∷ codes "Timestamp" ∷ codes "TimestampPath"
    ∷ [])

-- the machine of a Map, in either spelling
abbrev pub processor_group : Group
processor_group = exactly_one (two (codes "Iterator") (codes "ItemProcessor"))

-- the template for the inputs of its iterations
abbrev pub selector_group : Group
selector_group = at_most_one (two (codes "Parameters") (codes "ItemSelector"))

abbrev pub connectives : List (List ℕ)
connectives = codes "And" ∷ codes "Or" ∷ codes "Not" ∷ []

abbrev pub kind_groups : Kind → List Group
kind_groups kind.Task =
    at_most_one (two (codes "TimeoutSeconds") (codes "TimeoutSecondsPath"))
    ∷ at_most_one (two (codes "HeartbeatSeconds") (codes "HeartbeatSecondsPath")) ∷ transition
    ∷ []
kind_groups kind.Pass = transition ∷ []
kind_groups kind.Choice = []
kind_groups kind.Wait = wait_time ∷ transition ∷ []
kind_groups kind.Parallel = transition ∷ []
kind_groups kind.Map = processor_group ∷ selector_group ∷ transition ∷ []
kind_groups kind.Succeed = []
kind_groups kind.Fail =
    at_most_one (two (codes "Error") (codes "ErrorPath"))
    ∷ at_most_one (two (codes "Cause") (codes "CausePath")) ∷ []

abbrev pub rule_groups : List Group
rule_groups =
    exactly_one (operators ++ connectives) ∷ at_most_one (codes "Variable" ∷ connectives) ∷ []

-- what an object may have: its rows, what every other member is to be, and its groups
pub record Shape : Type 0 where
  pub rows : List Row
  pub others : Sort
  pub groups : List Group

abbrev pub known_shape : List Row → List Group → Shape
known_shape rs gs = record { rows = rs; others = Unknown; groups = gs }

abbrev pub kind_of : List ℕ → Option Kind
kind_of t =
    if bytes_eq t (codes "Task") then Some kind.Task
    else if bytes_eq t (codes "Pass") then Some kind.Pass
    else if bytes_eq t (codes "Choice") then Some kind.Choice
    else if bytes_eq t (codes "Wait") then Some kind.Wait
    else if bytes_eq t (codes "Parallel") then Some kind.Parallel
    else if bytes_eq t (codes "Map") then Some kind.Map
    else if bytes_eq t (codes "Succeed") then Some kind.Succeed
    else if bytes_eq t (codes "Fail") then Some kind.Fail
    else None

-- the type that an object names
abbrev pub kind_named : Option Data → Option Kind
kind_named (Some (text t)) = kind_of t
kind_named _ = None

-- a state whose type isn't known isn't searched
abbrev pub state_shape : Option Kind → Shape
state_shape (Some k) = known_shape (kind_rows k) (kind_groups k)
state_shape None = record { rows = untyped_rows; others = Any; groups = [] }

abbrev pub shape_of : Sort → Option Kind → Shape
shape_of Definition k = known_shape definition_rows []
shape_of Machine k = known_shape machine_rows []
shape_of ItemProcessor k = known_shape item_processor_rows []
shape_of ProcessorConfig k = known_shape processor_config_rows []
shape_of States k = record { rows = []; others = State; groups = [] }
shape_of State k = state_shape k
shape_of Rule k = known_shape rule_rows rule_groups
shape_of InnerRule k = known_shape inner_rule_rows rule_groups
shape_of Retrier k = known_shape retrier_rows []
shape_of Catcher k = known_shape catcher_rows []
shape_of Template k = record { rows = []; others = Template; groups = [] }
shape_of _ k = record { rows = []; others = Any; groups = [] }

abbrev pub shape_in : Sort → Pairs → Shape
shape_in s ms = shape_of s (kind_named (value_at (codes "Type") ms))

abbrev pub is_among : List ℕ → List (List ℕ) → Bool
is_among k [] = false
is_among k (l ∷ ls) = bytes_eq k l || is_among k ls

-- what a member of a template's object is to be
abbrev pub part_sort : List ℕ → Sort
part_sort k = if is_some (name_before k) then Computed else Template

-- what a member is to be that stands in no row
abbrev pub other_sort : Sort → List ℕ → Sort
other_sort Unknown k = if is_among k unsupported_names then Unsupported else Unknown
other_sort Template k = part_sort k
other_sort s k = s

-- what a member of this name is to be
abbrev pub sort_in : List Row → Sort → List ℕ → Sort
sort_in [] others k = other_sort others k
sort_in (r ∷ rs) others k = if bytes_eq k r.name then r.sort else sort_in rs others k

abbrev pub sort_at : Shape → List ℕ → Sort
sort_at sh k = sort_in sh.rows sh.others k

-- what the items of a list are to be
abbrev pub item_sort : Sort → Sort
item_sort Machines = Machine
item_sort Rules = Rule
item_sort InnerRules = InnerRule
item_sort Retriers = Retrier
item_sort Catchers = Catcher
item_sort ErrorNames = Text
item_sort Template = Template
item_sort s = Any
