-- A definition without faults, as a value.
use Rattle.std.proofs.Common.{◌≡◌, [], true, false, refl}
use Rattle.asl_json_data.specs.Data.{Data}
use Rattle.asl_def_schema.specs.declared.sort.Sort.TheVariants.{Definition}
use Rattle.asl_def_schema.specs.Demands.{is_of}
use Rattle.asl_def_schema.specs.declared.sort.Form.TheVariants.{Object}
use Rattle.asl_def_schema.specs.Claims.{claims, outside}
use Rattle.asl_def_schema.specs.First.{Each, Hold}
use Rattle.asl_def_schema.specs.States.{states_in, unique_claims}
use Rattle.asl_def_schema.specs.Faults.{Accepted}
use Rattle.asl_def_schema.specs.Clean.{IsCleanAmong}
use Rattle.asl_def_schema.proofs.Inside.{each_left, each_right, clean}
use Rattle.asl_def_schema.proofs.Kept.{form_fits}

pub accepted_clean : (d : Data) → Accepted d → IsCleanAmong (λ k. false) Definition d
accepted_clean d a = record { spot = outside; named = λ k. refl; hold = each_left Hold (claims outside Definition d) (unique_claims [] (states_in Definition d)) a.hold }

pub accepted_object : (d : Data) → Accepted d → is_of Object d ≡ true
accepted_object d a = form_fits (clean (accepted_clean d a))

-- the names of its states are all different
pub accepted_unique : (d : Data) → Accepted d → Each Hold (unique_claims [] (states_in Definition d))
accepted_unique d a = each_right Hold (claims outside Definition d) (unique_claims [] (states_in Definition d)) a.hold
