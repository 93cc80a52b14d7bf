-- The canonical form of an accepted definition is accepted.
use Rattle.std.proofs.Common.{[]}
use Rattle.asl_json_data.specs.Data.{Data}
use Rattle.asl_def_schema.specs.declared.sort.Sort.TheVariants.{Definition}
use Rattle.asl_def_schema.specs.Claims.{claims, outside}
use Rattle.asl_def_schema.specs.First.{Hold}
use Rattle.asl_def_schema.specs.States.{states_in, unique_claims}
use Rattle.asl_def_schema.specs.Canon.{canonical}
use Rattle.asl_def_schema.specs.Faults.{Accepted}
use Rattle.asl_json.specs.Sound.{KeysDiffer}
use Rattle.asl_def_judge.proofs.Answering.{each-append}
use Rattle.asl_def_schema.proofs.Inside.{each_left}
use Rattle.asl_def_schema.proofs.Accepting.{accepted_unique}
use Rattle.asl_def_canonical_laws.proofs.Holds.{claims_canon}
use Rattle.asl_def_canonical_laws.proofs.States.{unique_canonical}

pub accepted_canonical : (d : Data) → KeysDiffer d → Accepted d → Accepted (canonical d)
accepted_canonical d keys a = record {
  hold = each-append Hold (claims outside Definition (canonical d)) (unique_claims [] (states_in Definition (canonical d)))
      (claims_canon outside Definition d keys (each_left Hold (claims outside Definition d) (unique_claims [] (states_in Definition d)) a.hold))
      (unique_canonical d (accepted_unique d a));
}
