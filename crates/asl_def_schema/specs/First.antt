-- Which of some demands that are broken is answered: the lowest number, and of its places the first
-- in document order.
use Rattle.std.specs.Prelude.{◌≡◌, ◌<◌, ◌≤◌, ℕ, List, [], ◌∷◌, ◌++◌, Option, Some, None, nat_lt, if◌then◌else◌}
use Rattle.asl_def_schema.specs.declared.fault.FaultKind.{FaultKind}
use Rattle.asl_def_schema.specs.declared.fault.Step.{Step}
use Rattle.asl_def_schema.specs.Demands.{Demand, Holds, fault_of, number_of}
use Rattle.asl_def_schema.specs.Claims.{Claim}

abbrev pub Hold : Claim → Type 0
Hold c = Holds c.0

abbrev pub IsBroken : Claim → Type 0
IsBroken c = Hold c → ⊥

abbrev pub Each : (Claim → Type 0) → List Claim → Type 0
Each P [] = Unit {0}
Each P (c ∷ cs) = P c × Each P cs

-- a fault and its place
abbrev pub Found : Type 0
Found = FaultKind × List Step

-- the one with the lower number, else the earlier one
abbrev pub better : Option Found → Option Found → Option Found
better None b = b
better (Some a) None = Some a
better (Some a) (Some b) = if nat_lt (number_of b.0) (number_of a.0) then Some b else Some a

abbrev pub number : Claim → ℕ
number c = number_of (fault_of c.0)

-- the first of the lowest number among those that are broken
pub record IsFirst (cs : List Claim) (f : Found) : Type 0 where
  pub before : List Claim
  pub claim : Claim
  pub after : List Claim
  pub parts : cs ≡ before ++ claim ∷ after
  pub broken : IsBroken claim
  pub fault : f ≡ (fault_of claim.0, claim.1)
  pub earlier : Each (λ (b : Claim). IsBroken b → number claim < number b) before
  pub later : Each (λ (b : Claim). IsBroken b → number claim ≤ number b) after

-- what is answered: nothing where all hold, else the first
abbrev pub Answers : List Claim → Option Found → Type 0
Answers cs None = Each Hold cs
Answers cs (Some f) = IsFirst cs f
