-- Which bytes are an expectations file, which tests it has, and which fault is answered for any other.
use Rattle.std.specs.Prelude.{◌≡◌, ℕ, List, [], Some}
use Rattle.asl_json_data.specs.Data.{Data}
use Rattle.asl_json_data.specs.Reads.{ReadsAs}
use Rattle.asl_json_read.specs.Wrong.{IsFaultOf, IsFirstOf}
use Rattle.asl_json_read.specs.declared.fault.JsonFault.{JsonFault}
use Rattle.asl_json_read.specs.declared.fault.JsonFault.TheVariants as json
use Rattle.asl_suite_file.specs.Form.{misfits, first_of}
use Rattle.asl_suite_file.specs.Spelled.{tests_of}
use Rattle.asl_suite_file.specs.declared.expectation.Draft.{Draft}
use Rattle.asl_suite_file.specs.declared.fault.ExpectFault.{ExpectFault}
use Rattle.asl_suite_file.specs.declared.fault.ExpectFault.TheVariants.{Json, Shape, OutOfMemory}

-- all of the value fits, and it spells these tests
pub record AreSpelled (d : Data) (xs : List Draft) : Type 0 where
  pub fits : misfits d ≡ []
  pub tests : xs ≡ tests_of d

-- the bytes are a JSON text of a value that spells these tests
pub record IsExpectationsFile (b : List ℕ) (xs : List Draft) : Type 0 where
  pub value : Data
  pub reads : ReadsAs b value
  pub spelled : AreSpelled value xs

-- memory ran out, or this is the first place of the value at which something doesn't fit
abbrev pub IsFaultIn : Data → ExpectFault → Type 0
IsFaultIn d (Json f) = ⊥
IsFaultIn d (Shape p) = first_of (misfits d) ≡ Some p
IsFaultIn d OutOfMemory = Unit {0}

-- the bytes are a JSON text of a value with this fault
pub record IsFault (b : List ℕ) (e : ExpectFault) : Type 0 where
  pub value : Data
  pub reads : ReadsAs b value
  pub fault : IsFaultIn value e

-- memory ran out; or the bytes are no JSON text, with its fault; or this is the first fault of the value
abbrev pub IsAnswer : List ℕ → ExpectFault → Type 0
IsAnswer b (Json f) = IsFaultOf b f × (IsFirstOf b f × (f ≡ json.OutOfMemory → ⊥))
IsAnswer b (Shape p) = IsFault b (Shape p)
IsAnswer b OutOfMemory = Unit {0}

-- the answer where bytes aren't read
abbrev pub unread : JsonFault → ExpectFault
unread (json.Syntax at) = Json (json.Syntax at)
unread (json.Duplicate at) = Json (json.Duplicate at)
unread (json.Depth at) = Json (json.Depth at)
unread (json.Number at) = Json (json.Number at)
unread json.Size = Json json.Size
unread (json.Utf8 at) = Json (json.Utf8 at)
unread json.OutOfMemory = OutOfMemory
