-- What a clause sees of an answer.
use Rattle.std.specs.Prelude.{Result, Ok, Err}
use Rattle.asl_choice.specs.Truth.{Fault, missing, open_escape}
use Rattle.asl_choice.specs.declared.fault.RuleFault.{RuleFault}
use Rattle.asl_choice.specs.declared.fault.RuleFault.TheVariants.{Missing, OpenEscape}

abbrev pub fault_of : RuleFault → Fault
fault_of (Missing p) = missing p.now
fault_of OpenEscape = open_escape

-- an answer whose value is seen in this way
abbrev pub seen : {A : Type 0} {B : Type 0} → (A → B) → Result A RuleFault → Result B Fault
seen view (Ok a) = Ok (view a)
seen view (Err e) = Err (fault_of e)
