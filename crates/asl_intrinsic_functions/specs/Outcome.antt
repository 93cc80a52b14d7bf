-- A value, or why there is none.
use Rattle.std.specs.Prelude.{Option, Some, None, Result, Ok, Err}
use Rattle.asl_intrinsic_functions.specs.declared.fault.EvalFault.{EvalFault}
use Rattle.asl_intrinsic_functions.specs.declared.fault.EvalFault.TheVariants.{Fails}
use Rattle.asl_intrinsic_functions.specs.declared.fault.Reason.{Reason}

abbrev pub Outcome : Type 0 → Type 0
Outcome A = Result A EvalFault

-- go on with what was found; the first fault stays
abbrev pub fails : {A : Type 0} → Reason → Outcome A
fails r = Err (Fails r)

-- what is there, else the reason
abbrev pub or_fails : {A : Type 0} → Reason → Option A → Outcome A
or_fails r (Some a) = Ok a
or_fails r None = fails r
