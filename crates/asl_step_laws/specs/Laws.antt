-- What the rows of the table of states come to, in the words of the standard.
use Rattle.std.specs.Prelude.{◌≡◌, ℕ, ◌≤◌, List, [], ◌∷◌, ◌++◌, length, true, false, Option, Some, None, Result, Err, Ok, codes}
use Rattle.std.specs.List.{All}
use Rattle.asl_json_data.specs.Data.{Data, list, chain}
use Rattle.asl_json.specs.declared.value.Json.{Json}
use Rattle.asl_json.specs.declared.value.Json.TheVariants.{Dict, List as ListOf}
use Rattle.asl_history.specs.declared.kind.EventKind.{EventKind}
use Rattle.asl_history.specs.declared.kind.EventKind.TheVariants.{PassStateEntered, SucceedStateEntered, ChoiceStateEntered, WaitStateEntered, TaskStateEntered, TaskStateExited, TaskScheduled, TaskStarted, TaskSucceeded, ParallelStateEntered, ParallelStateExited, ParallelStateSucceeded, MapStateEntered, MapStateExited, MapStateSucceeded}
use Rattle.asl_mock.specs.Answers.{answer_to}
use Rattle.asl_mock.specs.declared.response.Answer.TheVariants.{Returns}
use Rattle.asl_def_fields.specs.Retries.{attempts_of}
use Rattle.asl_handle.specs.Names.{is_for}
use Rattle.asl_handle.specs.Decisions.{OnAgain, used, decision}
use Rattle.asl_step.specs.declared.effect.Children.TheVariants.{Removed}
use Rattle.asl_step.specs.declared.effect.Draft.{Draft}
use Rattle.asl_step.specs.declared.facts.Facts.{Facts}
use Rattle.asl_step.specs.declared.record.ErrorOut.{ErrorOut}
use Rattle.asl_step.specs.Records.{name_in, entering_with, beginning_with, pausing_with}
use Rattle.asl_step.specs.Context.{context_of}
use Rattle.asl_step.specs.Rows.{draft, entering, beginning, is_within_limit}
use Rattle.asl_step.specs.Seen.{Seen}
use Rattle.asl_step_io.specs.Paths.{Given}
use Rattle.asl_kinds.specs.Members.{effective, pass_output, passed_on, selected}
use Rattle.asl_kinds.specs.Forks.{forked_with, outputs}
use Rattle.asl_kinds.specs.Table.{fork_of, state_effect}
use Rattle.asl_step_laws.specs.Faults.{IsOf, error_failing, error_handled, TellsFirst, InvokesNothing, in_context, selected_input, waits_until, choice_data, placing_error}

-- ---- a fault in preparation

-- InputPath "is applied to a State's raw input to select some or all of it; that selection is used by
-- the state". Where what is used can't be made, no work is done.

-- A state of this type is entered with the raw input x, of which its data can't be made, with the
-- error e. The step tells that the state is entered (and before that an iteration that begins with
-- it), and then that its branch fails.
abbrev pub FailsUninvoked : {A : Type 0} → List ℕ → EventKind
    → (Data → Facts → Seen → Json → Result A ErrorOut) → Type 0
FailsUninvoked type entered prepared =
    (d : Data) (f : Facts) (v : Seen) (x : Json) (e : ErrorOut) → IsOf type d
    → entering_with v.current ≡ Some x → prepared d f v x ≡ Err e
    → TellsFirst (entering v entered x).events (error_failing v e) (state_effect d f v)
    × InvokesNothing (state_effect d f v)

-- A state that may have Retry and Catch is entered with it, or retried. The step tells that the state
-- is entered, or nothing where it is retried, and then what becomes of the error.
abbrev pub HandlesUninvoked : {A : Type 0} → List ℕ → EventKind → EventKind
    → (Data → Facts → Seen → Json → Result A ErrorOut) → Type 0
HandlesUninvoked type entered exited prepared =
    (d : Data) (f : Facts) (v : Seen) (x : Json) (e : ErrorOut) → IsOf type d
    → beginning_with v.current ≡ Some x → prepared d f v x ≡ Err e
    → TellsFirst (beginning v entered x).events (error_handled exited d v x e) (state_effect d f v)
    × InvokesNothing (state_effect d f v)

pub record PreparationFaults : Type 0 where
  pub pass : FailsUninvoked (codes "Pass") PassStateEntered (in_context effective)
  pub succeed : FailsUninvoked (codes "Succeed") SucceedStateEntered (in_context selected_input)
  pub choice : FailsUninvoked (codes "Choice") ChoiceStateEntered (in_context selected_input)
  pub wait : FailsUninvoked (codes "Wait") WaitStateEntered waits_until
  pub task : HandlesUninvoked (codes "Task") TaskStateEntered TaskStateExited (in_context effective)
  pub parallel :
      HandlesUninvoked (codes "Parallel") ParallelStateEntered ParallelStateExited (in_context effective)
  pub map : HandlesUninvoked (codes "Map") MapStateEntered MapStateExited fork_of

-- ---- a fault in placing

-- ResultPath "specifies the raw input's combination with or replacement by the state's result". Where
-- it can't be applied, or what ResultSelector makes before or OutputPath takes then can't be made, or
-- the output is above the data limit, the result was there all the same.

-- A state of this type is entered with the raw input x and left in the same step.
abbrev pub KeepsEntered : List ℕ → EventKind → (Data → Facts → Seen → Json → Given) → Type 0
KeepsEntered type entered gives =
    (d : Data) (f : Facts) (v : Seen) (x : Json) (e : ErrorOut) → IsOf type d
    → entering_with v.current ≡ Some x → placing_error (gives d f v x) ≡ Some e
    → TellsFirst (entering v entered x).events (error_failing v e) (state_effect d f v)

-- A Wait is over; that it was entered was told in an earlier step.
abbrev pub TellsErrorAlone : List ℕ → (Data → Facts → Seen → Json → Given) → Type 0
TellsErrorAlone type gives =
    (d : Data) (f : Facts) (v : Seen) (x : Json) (e : ErrorOut) → IsOf type d
    → pausing_with v.current ≡ Some x → placing_error (gives d f v x) ≡ Some e
    → TellsFirst [] (error_failing v e) (state_effect d f v)

-- what a Task has told whose service was invoked with y and returned r
abbrev pub answer_told : Seen → Json → Json → Json → List Draft
answer_told v x y r =
    (beginning v TaskStateEntered x).events
    ++ draft TaskScheduled (name_in v.current) y
    ∷ draft TaskStarted (name_in v.current) (Dict [])
    ∷ draft TaskSucceeded (name_in v.current) r ∷ []

-- A Task invokes its service with the effective input y, and the test case answers with r. All this
-- is told, and the invocation is counted.
abbrev pub KeepsAnswer : Type 0
KeepsAnswer =
    (d : Data) (f : Facts) (v : Seen) (x y r : Json) (e : ErrorOut) → IsOf (codes "Task") d
    → beginning_with v.current ≡ Some x → effective d x (context_of f v) ≡ Ok y
    → answer_to v.case (name_in v.current) v.count ≡ Some (Returns r)
    → is_within_limit r ≡ true
    → placing_error (selected d x (context_of f v) r) ≡ Some e
    → TellsFirst (answer_told v x y r) (error_handled TaskStateExited d v x e) (state_effect d f v)
    × ((state_effect d f v).raises ≡ true)

-- All branches of a Parallel, or all iterations of a Map, have ended well, with the outputs ds, whose
-- list is the result. The step tells that they have succeeded, and takes them away.
abbrev pub KeepsJoin : List ℕ → EventKind → EventKind → Type 0
KeepsJoin type succeeded exited =
    (d : Data) (f : Facts) (v : Seen) (x : Json) (ds : List Data) (e : ErrorOut) → IsOf type d
    → forked_with v.current ≡ Some x → outputs v.children ≡ Some ds
    → placing_error (selected d x (context_of f v) (ListOf ds)) ≡ Some e
    → TellsFirst (draft succeeded (name_in v.current) (Dict []) ∷ [])
    (error_handled exited d v x e) (state_effect d f v)
    × ((state_effect d f v).children ≡ Removed)

pub record PlacingFaults : Type 0 where
  pub pass : KeepsEntered (codes "Pass") PassStateEntered (in_context pass_output)
  pub succeed : KeepsEntered (codes "Succeed") SucceedStateEntered (in_context passed_on)
  pub choice : KeepsEntered (codes "Choice") ChoiceStateEntered (in_context choice_data)
  pub wait : TellsErrorAlone (codes "Wait") (in_context passed_on)
  pub task : KeepsAnswer
  pub parallel : KeepsJoin (codes "Parallel") ParallelStateSucceeded ParallelStateExited
  pub map : KeepsJoin (codes "Map") MapStateSucceeded MapStateExited

-- ---- retriers

-- "The interpreter scans through the Retriers": none before is for the error, and r is, which stands
-- behind them.
pub record IsFirstFor (error : List ℕ) (before : List Data) (r : Data) : Type 0 where
  pub not_before : All (λ (d : Data). is_for d error ≡ false) before
  pub is_next : is_for r error ≡ true

abbrev pub retry_of : List Data → Option Data
retry_of retriers = Some (list (chain retriers))

-- "Either there is no Retrier, or retries have failed to resolve the error": where r was used as often
-- as its MaxAttempts says, the error comes to what it comes to where there is no Retry.
abbrev pub UsedUpEndsTheSearch : Type 0
UsedUpEndsTheSearch =
    (before after : List Data) (r : Data) (catch : Option Data) (error uses : List ℕ) (now : ℕ)
    → IsFirstFor error before r → attempts_of r ≤ used uses (length before)
    → decision (retry_of (before ++ r ∷ after)) catch error uses now
    ≡ decision None catch error uses now

-- Which retriers stand behind r makes no difference, whether it is used up or not.
abbrev pub LaterOnesDontMatter : Type 0
LaterOnesDontMatter =
    (before after others : List Data) (r : Data) (catch : Option Data) (error uses : List ℕ)
    (now : ℕ) → IsFirstFor error before r
    → decision (retry_of (before ++ r ∷ after)) catch error uses now
    ≡ decision (retry_of (before ++ r ∷ others)) catch error uses now

-- Where the state is retried, r is the retrier.
abbrev pub OnlyTheFirstRetries : Type 0
OnlyTheFirstRetries =
    (before after : List Data) (r : Data) (catch : Option Data) (error uses : List ℕ) (now : ℕ)
    → IsFirstFor error before r
    → OnAgain (decision (retry_of (before ++ r ∷ after)) catch error uses now)
    (λ i. i ≡ length before)
