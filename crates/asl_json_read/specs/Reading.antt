-- The value that a text is read as, as a function of the text. (The law: exactly where the text
-- spells the value in the limits.)
use Rattle.std.specs.Prelude.{◌≡◌, ℕ, List, [], length, nat_lt, true, Option, Some, None, Result, Ok, Err, if◌then◌else◌}
use Rattle.std.specs.Result.{result_ok}
use Rattle.std.specs.Str.{IsUtf8}
use Rattle.asl_json_data.specs.Data.{Data}
use Rattle.asl_json_data.specs.Limits.{max_len}
use Rattle.asl_json_data.specs.Reads.{Reads}
use Rattle.asl_json_scan.specs.private.Machine.{value, run}
use Rattle.asl_json_read.specs.declared.fault.JsonFault.{JsonFault}
use Rattle.asl_json_read.specs.declared.fault.JsonFault.TheVariants.{OutOfMemory}

abbrev pub value_read : List ℕ → Option Data
value_read b = if nat_lt max_len (length b) then None else result_ok (run true value [] b)

-- the value that is there, or a fault where there is none; unless memory ran out
abbrev pub IsReading : {X : Type 0} → (X → Data) → Option Data → Result X JsonFault → Type 0
IsReading view o (Ok x) = o ≡ Some (view x)
IsReading view o (Err OutOfMemory) = Unit {0}
IsReading view o _ = o ≡ None

-- the bytes are a text of the value in the limits of values, however many they are
abbrev pub ReadsAtAnySize : List ℕ → Data → Type 0
ReadsAtAnySize b v = IsUtf8 b × Reads b v
