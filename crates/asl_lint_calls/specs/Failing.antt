-- Which texts are told: calls that have no value on any input and any Context Object, by what their
-- constant arguments are.
use Rattle.std.specs.Prelude.{ℕ, List, Option, Some, None, Ok, Err}
use Rattle.asl_json_data.specs.Data.{Data}
use Rattle.asl_intrinsic_functions.specs.Outcome.{Outcome}
use Rattle.asl_intrinsic.specs.Faults.{max_calls}
use Rattle.asl_intrinsic.specs.Values.{ev}
use Rattle.asl_intrinsic.specs.Tree.{Argument}
use Rattle.asl_lint_calls.specs.declared.failure.Failure.{Failure}
use Rattle.asl_lint_calls.specs.Known.{Known, never, known}
use Rattle.asl_lint_calls.specs.Reading.{read_call}

abbrev pub failure_in : Known → Option Failure
failure_in (never w) = Some w
failure_in k = None

abbrev pub failure_of : Option Argument → Option Failure
failure_of (Some a) = failure_in (known a)
failure_of None = None

-- why a text has no value on each input and each Context Object
unfoldable pub failing : List ℕ → Option Failure
failing t = failure_of (read_call max_calls t)

abbrev pub IsFault : {A : Type 0} → Outcome A → Type 0
IsFault (Ok d) = ⊥
IsFault (Err e) = Unit {0}

-- on each input and each Context Object the value of a text is a fault
abbrev pub AlwaysFails : List ℕ → Type 0
AlwaysFails t = (x c : Data) → IsFault (ev t x c)
