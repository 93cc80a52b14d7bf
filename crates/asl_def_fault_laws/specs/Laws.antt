-- Laws of the faults of a definition.
use Rattle.std.specs.Prelude.{◌≡◌, ◌↔◌, ◌⊎◌, ◌<◌, List, ◌∷◌, ◌++◌, true, Option, Some, None}
use Rattle.asl_json_data.specs.Data.{Data}
use Rattle.asl_def_schema.specs.declared.fault.FaultKind.{FaultKind}
use Rattle.asl_def_schema.specs.declared.fault.Step.{Step}
use Rattle.asl_def_schema.specs.declared.sort.Sort.TheVariants.{Definition}
use Rattle.asl_def_schema.specs.Demands.{number_of}
use Rattle.asl_def_schema.specs.Claims.{Claim, claims, outside}
use Rattle.asl_def_schema.specs.First.{Answers, Found}
use Rattle.asl_def_schema.specs.Faults.{claims_of}
use Rattle.asl_def_fault_laws.specs.Faults.{HasFault}
use Rattle.asl_def_fault_laws.specs.Order.{is_up_to}
use Rattle.asl_def_fault_laws.specs.Sentences.{Sentence}

-- a definition has a fault of this kind exactly where its sentence is so
abbrev pub HasItWhere : FaultKind → Type 0
HasItWhere k = (d : Data) (place : List Step) → HasFault d k place ↔ Sentence k d place

-- what is demanded of values stands in document order
abbrev pub ClaimsAreInOrder : Type 0
ClaimsAreInOrder =
    (d : Data) (front mid back : List Claim) (a b : Claim)
    → claims outside Definition d ≡ front ++ a ∷ mid ++ b ∷ back → is_up_to a.1 b.1 ≡ true

-- a fault has a lower number, or the same one and no later place
abbrev pub IsNoLater : Found → Found → Type 0
IsNoLater f g = (number_of f.0 < number_of g.0) ⊎ ((f.0 ≡ g.0) × (is_up_to f.1 g.1 ≡ true))

-- none where no sentence of a fault is so, else one whose sentence is so, and that no other such
-- fault comes before
abbrev pub Tells : Data → Option Found → Type 0
Tells d None = (k : FaultKind) (place : List Step) → Sentence k d place → ⊥
Tells d (Some f) =
    Sentence f.0 d f.1
    × ((k : FaultKind) (place : List Step) → Sentence k d place → IsNoLater f (k, place))

-- what `first_fault` of asl_def_judge answers
abbrev pub AnswersAreFirst : Type 0
AnswersAreFirst = (d : Data) (o : Option Found) → Answers (claims_of d) o → Tells d o

-- no two answers are told of a definition
abbrev pub OneIsTold : Type 0
OneIsTold = (d : Data) (o p : Option Found) → Tells d o → Tells d p → o ≡ p
