-- What is refused has a fault, and what has none is accepted.
use Rattle.std.proofs.Common.{◌≡◌, ◌∷◌, subst}
use Rattle.std.specs.Prelude.{Option, Some, None}
use Rattle.asl_json_data.specs.Data.{Data}
use Rattle.asl_def_schema.specs.First.{Each, Hold, Found, IsFirst, Answers}
use Rattle.asl_def_schema.specs.Faults.{Accepted, claims_of}
use Rattle.asl_def_schema.proofs.Inside.{each_right}
use Rattle.asl_def.specs.declared.fault.DefFault.{DefFault}
use Rattle.asl_def.specs.declared.fault.DefFault.TheVariants.{Refused, OutOfMemory}
use Rattle.asl_def.specs.Answer.{Tells, IsAnswer}

pub accepted : (d : Data) (o : Option Found) → o ≡ None → Answers (claims_of d) o → Accepted d
accepted d o is h = record { hold = subst (Answers (claims_of d)) is h }

pub refused : (d : Data) (o : Option Found) (f : Found) → o ≡ Some f → Answers (claims_of d) o → Accepted d → ⊥
refused d o f is h a =
    let first : IsFirst (claims_of d) f = subst (Answers (claims_of d)) is h in
    first.broken (each_right Hold first.before (first.claim ∷ first.after) (subst (Each Hold) first.parts a.hold)).0

pub answered : (d : Data) (o : Option Found) (f : Found) (e : DefFault) → o ≡ Some f → Answers (claims_of d) o → Tells f e → IsAnswer d e
answered d o f (Refused k p) is h t = record { found = f; first = subst (Answers (claims_of d)) is h; tells = t }
answered d o f OutOfMemory is h t = tt
