-- The laws of the newer spelling.
use Rattle.std.proofs.Common.{◌≡◌, []}
use Rattle.asl_json_data.specs.Data.{Data}
use Rattle.asl_def_schema.specs.declared.sort.Sort.TheVariants.{Definition}
use Rattle.asl_def_schema.specs.Claims.{claims, outside}
use Rattle.asl_def_schema.specs.First.{Hold}
use Rattle.asl_def_schema.specs.States.{states_in, unique_claims}
use Rattle.asl_def_schema.specs.Canon.{canonical}
use Rattle.asl_def_schema.specs.Faults.{Accepted}
use Rattle.asl_def_schema.proofs.Inside.{each_left}
use Rattle.asl_def_schema.proofs.Accepting.{accepted_unique}
use Rattle.asl_def_judge.proofs.Answering.{each-append}
use Rattle.asl_def.specs.Upgraded.{upgraded}
use Rattle.asl_def.proofs.Newer.{newer_twice}
use Rattle.asl_def.proofs.NewerHolds.{claims_newer}
use Rattle.asl_def.proofs.NewerNames.{unique_upgraded}
use Rattle.asl_def.proofs.NewerCanon.{canon_newer}

pub upgraded_twice : (d : Data) → upgraded (upgraded d) ≡ upgraded d
upgraded_twice d = newer_twice Definition d

pub accepted_upgraded : (d : Data) → Accepted d → Accepted (upgraded d)
accepted_upgraded d a = record {
  hold = each-append Hold (claims outside Definition (upgraded d)) (unique_claims [] (states_in Definition (upgraded d)))
      (claims_newer outside Definition d (each_left Hold (claims outside Definition d) (unique_claims [] (states_in Definition d)) a.hold))
      (unique_upgraded d (accepted_unique d a));
}

pub canonical_upgraded : (d : Data) → Accepted d → canonical (upgraded d) ≡ upgraded (canonical d)
canonical_upgraded d a = canon_newer outside Definition d (each_left Hold (claims outside Definition d) (unique_claims [] (states_in Definition d)) a.hold)
