-- The faults of a definition.
use Rattle.std.specs.Prelude.{List, [], ◌++◌}
use Rattle.asl_json_data.specs.Data.{Data}
use Rattle.asl_def_schema.specs.declared.sort.Sort.TheVariants.{Definition}
use Rattle.asl_def_schema.specs.Claims.{Claim, claims, outside}
use Rattle.asl_def_schema.specs.First.{Each, Hold}
use Rattle.asl_def_schema.specs.States.{states_in, unique_claims}

-- what is demanded of a definition
abbrev pub claims_of : Data → List Claim
claims_of d = claims outside Definition d ++ unique_claims [] (states_in Definition d)

-- a definition without faults
pub record Accepted (d : Data) : Type 0 where
  pub hold : Each Hold (claims_of d)
