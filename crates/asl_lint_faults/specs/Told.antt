-- The faults of a definition, all of them.
use Rattle.std.specs.Prelude.{◌≡◌, ◌⊎◌, List, [], ◌∷◌, Option, Some, None}
use Rattle.asl_def_schema.specs.Demands.{fault_of}
use Rattle.asl_def_schema.specs.Claims.{Claim}
use Rattle.asl_def_schema.specs.First.{Hold, IsBroken, Found, better}

-- of some claims the first is broken, and is told first
pub record IsTold (c : Claim) (Others : List Found → Type 0) (fs : List Found) : Type 0 where
  pub others : List Found
  pub broken : IsBroken c
  pub parts : fs ≡ (fault_of c.0, c.1) ∷ others
  pub others_are : Others others

-- of these claims those that are broken are told, in their order, each once, and no other
abbrev pub AreTold : List Claim → List Found → Type 0
AreTold [] fs = fs ≡ []
AreTold (c ∷ cs) fs = (Hold c × AreTold cs fs) ⊎ IsTold c (AreTold cs) fs

-- the first of the lowest number
abbrev pub least : List Found → Option Found
least [] = None
least (f ∷ fs) = better (Some f) (least fs)
