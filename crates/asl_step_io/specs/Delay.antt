-- How long a state waits, by a value (ASL, "Wait State").
use Rattle.std.specs.Prelude.{ℕ, ℤ, pos, negsuc, List, Option, Some, None, nat_le, if◌then◌else◌}
use Rattle.std.specs.Option.{option_and_then}
use Rattle.asl_json_data.specs.Data.{Data, number, text}
use Rattle.asl_json.specs.Whole.{whole_of}
use Rattle.asl_time.specs.Fields.{moment_in}
use Rattle.asl_def_schema.specs.Claims.{most_whole}
use Rattle.asl_step_io.specs.Paths.{part_of}

-- the limits of Seconds
abbrev pub within : Option ℤ → Option ℕ
within None = None
within (Some (negsuc n)) = None
within (Some (pos n)) = if nat_le n most_whole then Some n else None

-- a value that is a number of seconds: a whole one in these limits
abbrev pub seconds_of : Data → Option ℕ
seconds_of (number n) = within (whole_of n)
seconds_of _ = None

-- the moment of a value that is a timestamp
abbrev pub moment_of : Data → Option ℕ
moment_of (text t) = moment_in t
moment_of _ = None

-- the same of what a path names, with this Context Object
abbrev pub seconds_at : List ℕ → Data → Data → Option ℕ
seconds_at t x c = option_and_then seconds_of (part_of t x c)

abbrev pub moment_at : List ℕ → Data → Data → Option ℕ
moment_at t x c = option_and_then moment_of (part_of t x c)
