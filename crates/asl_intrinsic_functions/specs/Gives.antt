-- What code that may run out of memory gives, by a definition's outcome.
use Rattle.std.specs.Prelude.{◌≡◌, Result, Ok, Err}
use Rattle.asl_intrinsic_functions.specs.declared.fault.EvalFault.{EvalFault}
use Rattle.asl_intrinsic_functions.specs.declared.fault.EvalFault.TheVariants.{Fails, PathMissing, OutOfMemory}

abbrev pub Gives : {X : Type 0} {Y : Type 0} → (X → Y) → Result Y EvalFault → Result X EvalFault
    → Type 0
Gives view r (Ok x) = r ≡ Ok (view x)
Gives view r (Err (Fails w)) = r ≡ Err (Fails w)
Gives view r (Err PathMissing) = r ≡ Err PathMissing
Gives view r (Err OutOfMemory) = Unit {0}
