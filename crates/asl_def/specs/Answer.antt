-- What a definition is refused for.
use Rattle.std.specs.Prelude.{◌≡◌, ℕ, List, codes}
use Rattle.asl_json_data.specs.Data.{Data}
use Rattle.asl_json_write.specs.Pointers.{with_pointer}
use Rattle.asl_def_schema.specs.Demands.{words_of}
use Rattle.asl_def_schema.specs.First.{Found, IsFirst}
use Rattle.asl_def_schema.specs.Faults.{claims_of}
use Rattle.asl_def_schema.specs.Pointers.{pointer_text}
use Rattle.asl_def.specs.declared.fault.DefFault.{DefFault}
use Rattle.asl_def.specs.declared.fault.DefFault.TheVariants.{Refused, OutOfMemory}

-- a fault and its place, or want of memory
abbrev pub Tells : Found → DefFault → Type 0
Tells f (Refused k p) = (k ≡ f.0) × (p ≡ pointer_text f.1)
Tells f OutOfMemory = Unit {0}

-- the text of a fault: its number, its name and its place
abbrev pub def_line : DefFault → List ℕ
def_line (Refused k p) = with_pointer (words_of k) p
def_line OutOfMemory = codes "F16 OutOfMemory"

-- the first fault of a definition
pub record IsFirstFault (d : Data) (e : DefFault) : Type 0 where
  pub found : Found
  pub first : IsFirst (claims_of d) found
  pub tells : Tells found e

abbrev pub IsAnswer : Data → DefFault → Type 0
IsAnswer d (Refused k p) = IsFirstFault d (Refused k p)
IsAnswer d OutOfMemory = Unit {0}
