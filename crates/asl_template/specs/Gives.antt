-- What code that may run out of memory gives, by a definition's outcome.
use Rattle.std.specs.Prelude.{◌≡◌, Result, Ok, Err}
use Rattle.asl_template.specs.Filling.{Outcome}
use Rattle.asl_template.specs.declared.fill.FillFault.{FillFault}
use Rattle.asl_template.specs.declared.fill.FillFault.TheVariants.{PathFails, IntrinsicFails, OutOfMemory}

abbrev pub Gives : {X : Type 0} {Y : Type 0} → (X → Y) → Outcome Y → Result X FillFault → Type 0
Gives view r (Ok x) = r ≡ Ok (view x)
Gives view r (Err (PathFails k)) = r ≡ Err (PathFails k)
Gives view r (Err (IntrinsicFails k w)) = r ≡ Err (IntrinsicFails k w)
Gives view r (Err OutOfMemory) = Unit {0}
