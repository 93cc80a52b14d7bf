-- What is demanded of the values of a definition. To break a demand is a fault, and each demand
-- says one sentence.
use Rattle.std.specs.Prelude.{◌≡◌, ℕ, List, Bool, true, false, Option, is_some, codes}
use Rattle.asl_json_data.specs.Data.{Data, null, boolean, number, text, list, dict}
use Rattle.asl_path.specs.Grammar.{IsPath, StartsFrom}
use Rattle.asl_path.specs.declared.step.Root.TheVariants.{Input}
use Rattle.asl_intrinsic.specs.Faults.{IsCall}
use Rattle.asl_time.specs.Timestamp.{IsTimestamp}
use Rattle.asl_def_schema.specs.declared.fault.FaultKind.{FaultKind}
use Rattle.asl_def_schema.specs.declared.fault.FaultKind.TheVariants as kind
use Rattle.asl_def_schema.specs.declared.sort.Sort.{Sort}
use Rattle.asl_def_schema.specs.declared.sort.Sort.TheVariants as sort
use Rattle.asl_def_schema.specs.declared.sort.Form.{Form}
use Rattle.asl_def_schema.specs.declared.sort.Form.TheVariants as form

-- the types of JSON that a value may be of
abbrev pub form_of : Sort → Form
form_of sort.Definition = form.Object
form_of sort.Machine = form.Object
form_of sort.ItemProcessor = form.Object
form_of sort.ProcessorConfig = form.Object
form_of sort.States = form.Object
form_of sort.State = form.Object
form_of sort.Rule = form.Object
form_of sort.InnerRule = form.Object
form_of sort.Retrier = form.Object
form_of sort.Catcher = form.Object
form_of sort.Machines = form.List
form_of sort.Rules = form.List
form_of sort.InnerRules = form.List
form_of sort.Retriers = form.List
form_of sort.Catchers = form.List
form_of sort.ErrorNames = form.List
form_of sort.KindName = form.Text
form_of sort.Version = form.Text
form_of sort.Mode = form.Text
form_of sort.QueryLanguage = form.Text
form_of sort.Text = form.Text
form_of sort.Target = form.Text
form_of sort.Path = form.Text
form_of sort.PathOrCall = form.Text
form_of sort.Timestamp = form.Text
form_of sort.Jitter = form.Text
form_of sort.PathOrNull = form.TextOrNull
form_of sort.PlaceOrNull = form.TextOrNull
form_of sort.Truth = form.Truth
form_of sort.Number = form.Number
form_of sort.FromZero = form.Number
form_of sort.FromOne = form.Number
form_of sort.Rate = form.Number
form_of sort.DelayLimit = form.Number
form_of sort.Computed = form.Text
form_of sort.Template = form.Value
form_of sort.Any = form.Value
form_of sort.Unsupported = form.Value
form_of sort.Unknown = form.Value

abbrev pub is_of : Form → Data → Bool
is_of form.Object (dict ms) = true
is_of form.List (list ds) = true
is_of form.Text (text t) = true
is_of form.TextOrNull (text t) = true
is_of form.TextOrNull null = true
is_of form.Truth (boolean b) = true
is_of form.Number (number n) = true
is_of form.Value d = true
is_of f d = false

pub data Demand : Type 0 where
  -- the whole definition is an object
  object : Data → Demand
  -- a required member is there
  there : Option Data → Demand
  -- the object may have the member
  known : Demand
  -- what the value stands for is supported
  supported : Bool → Demand
  -- the value is of this type
  typed : Form → Data → Demand
  -- the value is in its range
  in_range : Bool → Demand
  timestamp : List ℕ → Demand
  -- no other member of the group stands before this one
  alone : Bool → Demand
  -- one member of the group is there
  decided : Bool → Demand
  -- the machine has a state of this name
  named : Bool → Demand
  -- no state before this one has its name
  unique : Bool → Demand
  -- States.ALL stands alone, and in the last retrier or catcher
  last : Bool → Demand
  path : List ℕ → Demand
  -- a path into the input
  place : List ℕ → Demand
  call : List ℕ → Demand
  -- at most 16 machines stand in one another
  within : Bool → Demand

abbrev pub fault_of : Demand → FaultKind
fault_of (object d) = kind.NotObject
fault_of (there o) = kind.Missing
fault_of known = kind.UnknownField
fault_of (supported b) = kind.Unsupported
fault_of (typed f d) = kind.WrongType
fault_of (in_range b) = kind.Range
fault_of (timestamp t) = kind.Range
fault_of (alone b) = kind.Both
fault_of (decided b) = kind.Neither
fault_of (named b) = kind.NoTarget
fault_of (unique b) = kind.DuplicateState
fault_of (last b) = kind.AllNotLast
fault_of (path t) = kind.Path
fault_of (place t) = kind.Path
fault_of (call t) = kind.Expression
fault_of (within b) = kind.Nesting

pub record HasMoment (t : List ℕ) : Type 0 where
  pub moment : ℕ
  pub is_timestamp : IsTimestamp t moment

abbrev pub Holds : Demand → Type 0
Holds (object d) = is_of form.Object d ≡ true
Holds (there o) = is_some o ≡ true
Holds known = ⊥
Holds (supported b) = b ≡ true
Holds (typed f d) = is_of f d ≡ true
Holds (in_range b) = b ≡ true
Holds (timestamp t) = HasMoment t
Holds (alone b) = b ≡ true
Holds (decided b) = b ≡ true
Holds (named b) = b ≡ true
Holds (unique b) = b ≡ true
Holds (last b) = b ≡ true
Holds (path t) = IsPath t
Holds (place t) = StartsFrom Input t
Holds (call t) = IsCall t
Holds (within b) = b ≡ true

abbrev pub number_of : FaultKind → ℕ
number_of kind.NotObject = 2
number_of kind.Missing = 3
number_of kind.UnknownField = 4
number_of kind.Unsupported = 5
number_of kind.WrongType = 6
number_of kind.Range = 7
number_of kind.Both = 8
number_of kind.Neither = 9
number_of kind.NoTarget = 10
number_of kind.DuplicateState = 11
number_of kind.AllNotLast = 12
number_of kind.Path = 13
number_of kind.Expression = 14
number_of kind.Nesting = 15

-- the number and the name that a fault line begins with
abbrev pub words_of : FaultKind → List ℕ
words_of kind.NotObject = codes "F2 NotObject"
words_of kind.Missing = codes "F3 Missing"
words_of kind.UnknownField = codes "F4 UnknownField"
words_of kind.Unsupported = codes "F5 Unsupported"
words_of kind.WrongType = codes "F6 WrongType"
words_of kind.Range = codes "F7 Range"
words_of kind.Both = codes "F8 Both"
words_of kind.Neither = codes "F9 Neither"
words_of kind.NoTarget = codes "F10 NoTarget"
words_of kind.DuplicateState = codes "F11 DuplicateState"
words_of kind.AllNotLast = codes "F12 AllNotLast"
words_of kind.Path = codes "F13 Path"
words_of kind.Expression = codes "F14 Expression"
words_of kind.Nesting = codes "F15 Nesting"
