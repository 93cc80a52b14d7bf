-- Laws of the definitions.
use Rattle.std.specs.Prelude.{◌≡◌, ◌↔◌, ◌<◌, ℕ, [], true, false}
use Rattle.asl_json_data.specs.Data.{Data}
use Rattle.asl_json_data.specs.Distinct.{Members}
use Rattle.asl_mock.specs.Faults.{lost_names as all_lost}
use Rattle.asl_mock.specs.Form.{misfits}
use Rattle.asl_mock.specs.declared.shape.Shape.TheVariants.{Top}
use Rattle.asl_lint_mocks.specs.Lost.{lost_names}
use Rattle.asl_lint_mocks.specs.Warnings.{is_answered, has_gap}

-- a number without an answer is below one that has one
abbrev pub LeavesOut : Members → Type 0
LeavesOut ms =
    (n : ℕ) × (m : ℕ) × (n < m) × (is_answered ms n ≡ false) × (is_answered ms m ≡ true)

-- a response has a gap just where it leaves out a number
abbrev pub GapsAreBelowAnswers : Type 0
GapsAreBelowAnswers = (ms : Members) → (has_gap ms ≡ true ↔ LeavesOut ms)

-- where all values fit, the names that are told are those that `asl_mock` finds lost
abbrev pub SameNamesAreLost : Type 0
SameNamesAreLost = (d : Data) → misfits Top d ≡ [] → lost_names d ≡ all_lost d
