-- Tasks whose answers change no more.
use Rattle.std.specs.Prelude.{ℕ, ◌≡◌, ◌≤◌, false, get_or, List, Option, Some, None}
use Rattle.asl_json_data.specs.Data.{Data}
use Rattle.asl_mock.specs.Answers.{Case, answer_to}
use Rattle.asl_def.specs.Machines.{state_object, state_number}
use Rattle.asl_run_input.specs.declared.setup.Setup.{Setup}
use Rattle.asl_step_reads.specs.Reading.{reads}
use Rattle.asl_step_reads.specs.Steps.{token_keys}

-- No execution invokes services more often: a history has at most 25,000 events (Developer Guide,
-- "Quotas"), and an invocation tells three at least.
abbrev pub most_invocations : ℕ
most_invocations = 8_333

-- so none asks for an answer of a higher number
abbrev pub last_answer : ℕ
last_answer = 9_999

-- the answers to the state of this name are equal from this number on
abbrev pub AreOneFrom : Case → List ℕ → ℕ → Type 0
AreOneFrom c name from =
    (i : ℕ) → from ≤ i → i ≤ last_answer → answer_to c name i ≡ answer_to c name from

-- once the state of this name was invoked so often, each invocation does the same: its answers are
-- equal from then on, and no text of it reads its token
pub record IsSettled (s : Setup) (name : List ℕ) (count : ℕ) : Type 0 where
  pub answers : AreOneFrom s.case name count
  pub unread : (d : Data) → state_object name s.machine ≡ Some d → reads token_keys d ≡ false

-- so many invocations leave room for one more and for all of an execution below the last answer
abbrev pub most_before : ℕ
most_before = 1_665

-- it is settled, and was invoked no more often than leaves that room
pub record IsSettledAt (s : Setup) (name : List ℕ) (count : ℕ) : Type 0 where
  pub settled : IsSettled s name count
  pub room : count ≤ most_before

-- by their numbers: states that are settled once they were invoked so often
abbrev pub AreSettledFrom : Setup → List (Option ℕ) → Type 0
AreSettledFrom s from =
    (name : List ℕ) (number count : ℕ) → state_number name s.machine ≡ Some number
    → get_or from number None ≡ Some count → IsSettled s name count
