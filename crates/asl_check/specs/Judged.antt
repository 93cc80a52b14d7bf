-- Which texts are definitions, and which fault is answered for any other.
use Rattle.std.specs.Prelude.{◌≡◌, ℕ, List}
use Rattle.asl_json_data.specs.Data.{Data}
use Rattle.asl_json_data.specs.Reads.{ReadsAs}
use Rattle.asl_json_read.specs.Wrong.{IsFaultOf as IsJsonFaultOf, IsFirstOf}
use Rattle.asl_json_read.specs.declared.fault.JsonFault.{JsonFault}
use Rattle.asl_json_read.specs.declared.fault.JsonFault.TheVariants as json
use Rattle.asl_def_schema.specs.declared.fault.FaultKind.{FaultKind}
use Rattle.asl_def_schema.specs.declared.fault.Step.{Step}
use Rattle.asl_def_schema.specs.Faults.{Accepted, claims_of}
use Rattle.asl_def_schema.specs.Canon.{canonical}
use Rattle.asl_def_schema.specs.First.{IsFirst}
use Rattle.asl_def_schema.specs.Pointers.{pointer_text}
use Rattle.asl_check.specs.declared.fault.Fault.{Fault}
use Rattle.asl_check.specs.declared.fault.Fault.TheVariants.{Json, Definition, OutOfMemory}

-- a text of a value without faults
pub record IsDefinition (b : List ℕ) : Type 0 where
  pub value : Data
  pub reads : ReadsAs b value
  pub accepted : Accepted value

-- the text spells a definition, of which this is the canonical form
pub record IsMachineOf (b : List ℕ) (m : Data) : Type 0 where
  pub definition : Data
  pub reads : ReadsAs b definition
  pub accepted : Accepted definition
  pub compiled : m ≡ canonical definition

-- the first fault of a JSON text
pub record IsTextFault (b : List ℕ) (f : JsonFault) : Type 0 where
  pub is_fault : IsJsonFaultOf b f
  pub is_first : IsFirstOf b f
  pub told : f ≡ json.OutOfMemory → ⊥

-- the first fault of a value
pub record IsFirstFault (d : Data) (k : FaultKind) (p : List ℕ) : Type 0 where
  pub place : List Step
  pub is_first : IsFirst (claims_of d) (k, place)
  pub pointer : p ≡ pointer_text place

-- the first fault of the value that a text spells
pub record IsValueFault (b : List ℕ) (k : FaultKind) (p : List ℕ) : Type 0 where
  pub value : Data
  pub reads : ReadsAs b value
  pub fault : IsFirstFault value k p

-- why a text is no definition, unless memory ran out
abbrev pub IsFaultOf : List ℕ → Fault → Type 0
IsFaultOf b (Json f) = IsTextFault b f
IsFaultOf b (Definition k p) = IsValueFault b k p
IsFaultOf b OutOfMemory = Unit {0}

-- ---- each half of it

-- why a text spells no value
abbrev pub IsUnread : List ℕ → Fault → Type 0
IsUnread b (Json f) = IsTextFault b f
IsUnread b (Definition k p) = ⊥
IsUnread b OutOfMemory = Unit {0}

-- why a value is no definition
abbrev pub IsFaulty : Data → Fault → Type 0
IsFaulty d (Json f) = ⊥
IsFaulty d (Definition k p) = IsFirstFault d k p
IsFaulty d OutOfMemory = Unit {0}
