-- Which bytes are read, and the faults of the others with their places from the start.
use Rattle.std.specs.Prelude.{◌≡◌, ◌⊎◌, ℕ, ◌-◌, ◌<◌, ◌≤◌, ◌==◌, nat_lt, Bool, false, ◌||◌, ◌&&◌, List, length, take, Result, Ok, Err}
use Rattle.std.specs.Str.Lossy.{utf8_valid_len}
use Rattle.asl_json_data.specs.Data.{Data}
use Rattle.asl_json_data.specs.Limits.{max_len}
use Rattle.asl_json_scan.specs.Open.{FaultAt}
use Rattle.asl_json_scan.specs.declared.fault.Kind.{Kind}
use Rattle.asl_json_scan.specs.declared.fault.Kind.TheVariants as kinds
use Rattle.asl_json_scan.specs.declared.fault.Stop.{Stop}
use Rattle.asl_json_scan.specs.declared.fault.Stop.TheVariants as stops
use Rattle.asl_json_read.specs.declared.fault.JsonFault.{JsonFault}
use Rattle.asl_json_read.specs.declared.fault.JsonFault.TheVariants.{Syntax, Duplicate, Depth, Number, Size, Utf8, OutOfMemory}

-- the bytes before the first malformed sequence
abbrev pub front : List ℕ → List ℕ
front b = take (utf8_valid_len b) b

-- a fault of the bytes before the first malformed sequence, and not at its place
pub record FaultIn (b : List ℕ) (kind : Kind) (at : ℕ) : Type 0 where
  pub within : at ≤ length (front b)
  pub fault_is : FaultAt (front b) kind (length (front b) - at)
  pub first : (at ≡ length (front b)) → length b ≤ at

-- there begins the first malformed sequence
pub record MalformedAt (b : List ℕ) (at : ℕ) : Type 0 where
  pub at_is : at ≡ utf8_valid_len b
  pub malformed : at < length b

-- a fault that bytes have, whichever others they have
abbrev pub HasFault : List ℕ → JsonFault → Type 0
HasFault b (Syntax at) = FaultIn b kinds.Syntax at ⊎ FaultIn b kinds.Lone at
HasFault b (Duplicate at) = FaultIn b kinds.Duplicate at
HasFault b (Depth at) = FaultIn b kinds.Depth at
HasFault b (Number at) = FaultIn b kinds.Number at
HasFault b Size = max_len < length b
HasFault b (Utf8 at) = MalformedAt b at
HasFault b OutOfMemory = ⊥

abbrev pub place_of : JsonFault → ℕ
place_of (Syntax at) = at
place_of (Duplicate at) = at
place_of (Depth at) = at
place_of (Number at) = at
place_of Size = 0
place_of (Utf8 at) = at
place_of OutOfMemory = 0

-- the order at one place; the size comes before all others
abbrev pub rank_of : JsonFault → ℕ
rank_of Size = 0
rank_of (Utf8 at) = 1
rank_of (Syntax at) = 2
rank_of (Depth at) = 3
rank_of (Number at) = 4
rank_of (Duplicate at) = 5
rank_of OutOfMemory = 6

-- which of two faults is answered: the size, else the one with the least place, at one place the
-- one of lower rank
abbrev pub comes_before : JsonFault → JsonFault → Bool
comes_before f e =
    (rank_of f == 0) || nat_lt (place_of f) (place_of e)
    || ((place_of f == place_of e) && nat_lt (rank_of f) (rank_of e))

-- memory ran out, or the bytes have this fault
abbrev pub IsFaultOf : List ℕ → JsonFault → Type 0
IsFaultOf b OutOfMemory = Unit {0}
IsFaultOf b (Syntax at) = HasFault b (Syntax at)
IsFaultOf b (Duplicate at) = HasFault b (Duplicate at)
IsFaultOf b (Depth at) = HasFault b (Depth at)
IsFaultOf b (Number at) = HasFault b (Number at)
IsFaultOf b Size = HasFault b Size
IsFaultOf b (Utf8 at) = HasFault b (Utf8 at)

-- memory ran out, or no other fault of the bytes comes before this one
abbrev pub IsFirstOf : List ℕ → JsonFault → Type 0
IsFirstOf b OutOfMemory = Unit {0}
IsFirstOf b Size = Unit {0}
IsFirstOf b (Syntax at) = (f : JsonFault) → HasFault b f → comes_before f (Syntax at) ≡ false
IsFirstOf b (Duplicate at) = (f : JsonFault) → HasFault b f → comes_before f (Duplicate at) ≡ false
IsFirstOf b (Depth at) = (f : JsonFault) → HasFault b f → comes_before f (Depth at) ≡ false
IsFirstOf b (Number at) = (f : JsonFault) → HasFault b f → comes_before f (Number at) ≡ false
IsFirstOf b (Utf8 at) = (f : JsonFault) → HasFault b f → comes_before f (Utf8 at) ≡ false

-- this value, unless memory ran out
abbrev pub IsRead : {X : Type 0} → (X → Data) → Data → Result X JsonFault → Type 0
IsRead view v (Ok x) = view x ≡ v
IsRead view v (Err OutOfMemory) = Unit {0}
IsRead view v _ = ⊥

-- ---- from the bytes left to the place from the start

abbrev pub of_kind : Kind → ℕ → JsonFault
of_kind kinds.Syntax at = Syntax at
of_kind kinds.Lone at = Syntax at
of_kind kinds.Duplicate at = Duplicate at
of_kind kinds.Depth at = Depth at
of_kind kinds.Number at = Number at

abbrev pub placed : ℕ → Stop → JsonFault
placed len stops.Memory = OutOfMemory
placed len (stops.Fault f) = of_kind f.kind (len - f.left)

abbrev pub FitsIn : ℕ → Stop → Type 0
FitsIn len stops.Memory = Unit {0}
FitsIn len (stops.Fault f) = f.left ≤ len

abbrev pub at_end : Stop → Bool
at_end stops.Memory = false
at_end (stops.Fault f) = f.left == 0
