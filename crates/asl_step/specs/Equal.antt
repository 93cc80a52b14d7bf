-- What `==` of each type answers, as a function of the two values that contracts see.
use Rattle.std.specs.Prelude.{ℕ, List, Bool, ◌≡◌}
use Rattle.std.specs.Bool.{Decides}
use Rattle.asl_history.specs.contracts.place.PlacePartialEq.TheImpl as places
use Rattle.asl_step.specs.declared.record.ErrorOut.{ErrorOut}
use Rattle.asl_step.specs.declared.record.Record.{Record}
use Rattle.asl_step.specs.contracts.record.ErrorOutPartialEq.TheImpl as errors
use Rattle.asl_step.specs.contracts.record.UsesPartialEq.TheImpl as uses
use Rattle.asl_step.specs.contracts.record.RecordPartialEq.TheImpl as records

-- it is true exactly where the two are equal
abbrev pub IsExact : {A : Type 0} → (A → A → Bool) → Type 0
IsExact {A} eq = (x y : A) → Decides (eq x y) (x ≡ y)

abbrev pub place_eq : List ℕ → List ℕ → Bool
place_eq = (places.ghosts).eq

abbrev pub error_eq : ErrorOut → ErrorOut → Bool
error_eq = (errors.ghosts).eq

abbrev pub uses_eq : List ℕ → List ℕ → Bool
uses_eq = (uses.ghosts).eq

abbrev pub record_eq : Record → Record → Bool
record_eq = (records.ghosts).eq
