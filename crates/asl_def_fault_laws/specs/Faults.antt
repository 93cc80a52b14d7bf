-- The faults of a definition, at each place.
use Rattle.std.specs.Prelude.{◌≡◌, ◌⊎◌, List, [], ◌∷◌}
use Rattle.asl_json_data.specs.Data.{Data}
use Rattle.asl_def_schema.specs.declared.fault.FaultKind.{FaultKind}
use Rattle.asl_def_schema.specs.declared.fault.Step.{Step}
use Rattle.asl_def_schema.specs.Demands.{fault_of}
use Rattle.asl_def_schema.specs.Claims.{Claim}
use Rattle.asl_def_schema.specs.First.{IsBroken}
use Rattle.asl_def_schema.specs.Faults.{claims_of}

-- one of a list is so
abbrev pub One : {X : Type 0} → (X → Type 0) → List X → Type 0
One P [] = ⊥
One P (x ∷ xs) = P x ⊎ One P xs

-- a claim is broken, and this is the fault and its place
pub record IsFault (k : FaultKind) (place : List Step) (c : Claim) : Type 0 where
  pub broken : IsBroken c
  pub kind : fault_of c.0 ≡ k
  pub stands : c.1 ≡ place

-- a definition has a fault of this kind at this place
abbrev pub HasFault : Data → FaultKind → List Step → Type 0
HasFault d k place = One (IsFault k place) (claims_of d)
