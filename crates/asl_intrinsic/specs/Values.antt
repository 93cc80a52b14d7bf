-- The value of a text that spells a call.
use Rattle.std.specs.Prelude.{ℕ, List, Result, Ok, Err}
use Rattle.asl_json_data.specs.Data.{Data}
use Rattle.asl_intrinsic_functions.specs.declared.fault.EvalFault.TheVariants.{PathMissing}
use Rattle.asl_intrinsic.specs.Tree.{Argument}
use Rattle.asl_intrinsic_functions.specs.Outcome.{Outcome}
use Rattle.asl_intrinsic.specs.Calls.{value_of}
use Rattle.asl_intrinsic.specs.private.Steps.{heard}

-- of what was heard; a text that is no call names nothing
abbrev pub value_by : Result Argument ℕ → Data → Data → Outcome Data
value_by (Ok a) x c = value_of a x c
value_by (Err left) x c = Err PathMissing

-- on an input x and a context c
abbrev pub ev : List ℕ → Data → Data → Outcome Data
ev t x c = value_by (heard t) x c
