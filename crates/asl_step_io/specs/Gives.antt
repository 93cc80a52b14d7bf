-- What a call that makes data answers, by what is given.
use Rattle.std.specs.Prelude.{◌≡◌, Result, Ok, Err}
use Rattle.asl_step_io.specs.declared.fault.Fault.{Fault}
use Rattle.asl_step_io.specs.declared.fault.Fault.TheVariants.{Memory, Raised}
use Rattle.asl_step.specs.declared.record.ErrorOut.{ErrorOut}

-- this error, unless memory ran out
abbrev pub IsRaised : ErrorOut → Fault → Type 0
IsRaised e Memory = Unit {0}
IsRaised e (Raised f) = f ≡ e

-- what is given, unless memory ran out
abbrev pub Gives : {A : Type 0} → Result A ErrorOut → Result A Fault → Type 0
Gives g (Ok v) = g ≡ Ok v
Gives g (Err Memory) = Unit {0}
Gives g (Err (Raised e)) = g ≡ Err e

-- the same of a value that is seen in this way
abbrev pub GivesSeen : {A : Type 0} {B : Type 0} → (A → B) → Result B ErrorOut → Result A Fault
    → Type 0
GivesSeen view g (Ok v) = g ≡ Ok (view v)
GivesSeen view g (Err Memory) = Unit {0}
GivesSeen view g (Err (Raised e)) = g ≡ Err e
