-- Which bytes are a mock file, what it holds, and which fault is answered for any other.
use Rattle.std.specs.Prelude.{◌≡◌, ℕ, List, [], Option, Some, None, Result, Ok, Err, ok_or}
use Rattle.asl_json_data.specs.Data.{Data}
use Rattle.asl_json_data.specs.Reads.{ReadsAs}
use Rattle.asl_json_read.specs.Wrong.{IsFaultOf, IsFirstOf}
use Rattle.asl_json_read.specs.declared.fault.JsonFault.{JsonFault}
use Rattle.asl_json_read.specs.declared.fault.JsonFault.TheVariants as json
use Rattle.asl_mock.specs.Places.{Place, pointer_text, first_of}
use Rattle.asl_mock.specs.Tables.{Named, value_for}
use Rattle.asl_mock.specs.Answers.{Case, Machine, mocks_of}
use Rattle.asl_mock.specs.Faults.{faults}
use Rattle.asl_mock.specs.declared.fault.CaseFault.{CaseFault}
use Rattle.asl_mock.specs.declared.fault.CaseFault.TheVariants.{NoMachine, NoCase}
use Rattle.asl_mock.specs.declared.fault.MockFault.{MockFault}
use Rattle.asl_mock.specs.declared.fault.MockFault.TheVariants.{Json, Shape, Key, Overlap, NoResponse, OutOfMemory}

-- the bytes are a JSON text of a value without faults, which spells these
pub record IsMockFile (b : List ℕ) (ms : List (Named Machine)) : Type 0 where
  pub value : Data
  pub reads : ReadsAs b value
  pub faultless : faults value ≡ []
  pub spelled : ms ≡ mocks_of value

-- the first fault of the value has this number, and stands at the place of this text
pub record IsFirstFault (d : Data) (n : ℕ) (p : List ℕ) : Type 0 where
  pub place : Place
  pub first : first_of (faults d) ≡ Some (n, place)
  pub text : p ≡ pointer_text place

-- memory ran out, or this is the first fault of the value
abbrev pub IsFaultIn : Data → MockFault → Type 0
IsFaultIn d (Json f) = ⊥
IsFaultIn d (Shape p) = IsFirstFault d 2 p
IsFaultIn d (Key p) = IsFirstFault d 3 p
IsFaultIn d (Overlap p) = IsFirstFault d 4 p
IsFaultIn d (NoResponse p) = IsFirstFault d 5 p
IsFaultIn d OutOfMemory = Unit {0}

abbrev pub IsJudged : Data → Result (List (Named Machine)) MockFault → Type 0
IsJudged d (Ok ms) = (faults d ≡ []) × (ms ≡ mocks_of d)
IsJudged d (Err e) = IsFaultIn d e

-- the bytes are a JSON text of a value with this fault
pub record IsFault (b : List ℕ) (e : MockFault) : Type 0 where
  pub value : Data
  pub reads : ReadsAs b value
  pub fault : IsFaultIn value e

-- memory ran out; or the bytes are no JSON text, with its fault; or this is the first fault of the
-- value
abbrev pub IsAnswer : List ℕ → MockFault → Type 0
IsAnswer b (Json f) = IsFaultOf b f × (IsFirstOf b f × (f ≡ json.OutOfMemory → ⊥))
IsAnswer b (Shape p) = IsFault b (Shape p)
IsAnswer b (Key p) = IsFault b (Key p)
IsAnswer b (Overlap p) = IsFault b (Overlap p)
IsAnswer b (NoResponse p) = IsFault b (NoResponse p)
IsAnswer b OutOfMemory = Unit {0}

-- the answer where bytes aren't read
abbrev pub unread : JsonFault → MockFault
unread (json.Syntax at) = Json (json.Syntax at)
unread (json.Duplicate at) = Json (json.Duplicate at)
unread (json.Depth at) = Json (json.Depth at)
unread (json.Number at) = Json (json.Number at)
unread json.Size = Json json.Size
unread (json.Utf8 at) = Json (json.Utf8 at)
unread json.OutOfMemory = OutOfMemory

-- ---- a case by its names

abbrev pub or_no_machine : Option Machine → List ℕ → Result Case CaseFault
or_no_machine None k = Err NoMachine
or_no_machine (Some m) k = ok_or (value_for k m) NoCase

abbrev pub case_at : List (Named Machine) → List ℕ → List ℕ → Result Case CaseFault
case_at ms machine case = or_no_machine (value_for machine ms) case
