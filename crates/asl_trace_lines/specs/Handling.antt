-- What became of an error that a state raised: which retrier or catcher decided.
use Rattle.std.specs.Prelude.{ℕ, zero, suc, ◌+◌, ◌-◌, Bool, true, false, ◌&&◌, ◌||◌, List, [], ◌∷◌, ◌++◌, Option, Some, None, if◌then◌else◌, codes}
use Rattle.std.specs.Str.{bytes_eq}
use Rattle.std.specs.Fmt.{decimal}
use Rattle.asl_json_data.specs.Data.{Data, Chain, no_items, item}
use Rattle.asl_json.specs.Same.{equal}
use Rattle.asl_step.specs.Records.{error_name, uses_in}
use Rattle.asl_step.specs.declared.record.ErrorOut.{ErrorOut}
use Rattle.asl_def_fields.specs.Retries.{attempts_of}
use Rattle.asl_handle.specs.Decisions.{Handling, again, caught, unhandled, handlers_in, used, decision}
use Rattle.asl_trace_lines.specs.Seen.{Seen}
use Rattle.asl_trace_lines.specs.Columns.{elapsed}

-- what becomes of an error, by how often each retrier was used
abbrev pub decision_on : Seen → ErrorOut → Handling
decision_on v e = decision v.retry v.catch (error_name e) (uses_in v.before) v.now

-- what would become of it, had no retrier been used
abbrev pub first_decision_on : Seen → ErrorOut → Handling
first_decision_on v e = decision v.retry v.catch (error_name e) [] v.now

-- `MaxAttempts` of the retrier of this number; 0 where there is none
abbrev pub attempts_at : ℕ → Chain → ℕ
attempts_at i no_items = 0
attempts_at zero (item r rs) = attempts_of r
attempts_at (suc i) (item r rs) = attempts_at i rs

-- the number of the first catcher that is equal to this one; so many as there are, where none is
abbrev pub number_of : Data → Chain → ℕ
number_of c no_items = 0
number_of c (item d ds) = if equal d c then 0 else suc (number_of c ds)

-- ---- texts

-- the number of a retrier, and how often it is used now
abbrev pub use_text : Seen → ℕ → List ℕ
use_text v i =
    codes "retrier " ++ (decimal i ++ (codes ", use " ++ decimal (used (uses_in v.before) i + 1)))

-- how often it may be used
abbrev pub attempts_text : Seen → ℕ → List ℕ
attempts_text v i = codes " of " ++ decimal (attempts_at i (handlers_in v.retry))

abbrev pub retried_text : Seen → ℕ → ℕ → List ℕ
retried_text v i until =
    use_text v i ++ (attempts_text v i ++ (codes ": again at " ++ elapsed (until - v.start)))

-- the number of the retrier by which the state is retried
abbrev pub retrier_in : Handling → Option ℕ
retrier_in (again i until) = Some i
retrier_in (caught c) = None
retrier_in unhandled = None

-- that the retrier is used up that is for the error, where there is one
abbrev pub spent_text : List ℕ → Option ℕ → List ℕ
spent_text otherwise None = otherwise
spent_text otherwise (Some i) = codes "retrier " ++ (decimal i ++ codes " is used up, ")

abbrev pub caught_text : Seen → ErrorOut → Data → List ℕ
caught_text v e c =
    spent_text [] (retrier_in (first_decision_on v e))
    ++ (codes "catcher " ++ decimal (number_of c (handlers_in v.catch)))

-- what decided on an error; nothing where none of both did
abbrev pub decided_text : Seen → ErrorOut → Handling → List ℕ
decided_text v e (again i until) = retried_text v i until
decided_text v e (caught c) = caught_text v e c
decided_text v e unhandled = []

-- the types of states that may have Retry and Catch
abbrev pub handles : List ℕ → Bool
handles kind =
    bytes_eq kind (codes "Task")
    || (bytes_eq kind (codes "Parallel") || bytes_eq kind (codes "Map"))

abbrev pub failure_text : List ℕ → List ℕ
failure_text [] = codes "the execution fails"
failure_text (i ∷ p) = codes "the branch fails"

abbrev pub is_unhandled : Handling → Bool
is_unhandled (again i until) = false
is_unhandled (caught c) = false
is_unhandled unhandled = true

-- of an error that this retrier is for, where one is
unfoldable pub why_text : Option ℕ → List ℕ
why_text retrier = spent_text (codes "no retrier, ") retrier ++ codes "no catcher: "

-- whether it is told why nothing handled an error: the state may have Retry and Catch
abbrev pub tells_why : Seen → ErrorOut → Bool
tells_why v e = handles v.kind && is_unhandled (decision_on v e)

abbrev pub unhandled_text : Seen → ErrorOut → List ℕ
unhandled_text v e =
    if tells_why v e then why_text (retrier_in (first_decision_on v e)) else []

abbrev pub failed_text : Seen → ErrorOut → List ℕ
failed_text v e = unhandled_text v e ++ failure_text v.place
