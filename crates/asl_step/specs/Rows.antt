-- The pieces of which the rows of the state table are made (Step Functions Developer Guide,
-- "HistoryEvent").
use Rattle.std.specs.Prelude.{ℕ, pos, ◌-◌, nat_le, Bool, false, if◌then◌else◌, List, [], ◌∷◌, ◌++◌, Option, Some, None, codes, length, slice_index}
use Rattle.std.specs.Fmt.{signed_decimal}
use Rattle.asl_json_data.specs.Data.{Data, text, number}
use Rattle.asl_json.specs.View.{data_of}
use Rattle.asl_json_data.specs.Compact.{compact}
use Rattle.asl_json.specs.declared.value.Json.{Json}
use Rattle.asl_json.specs.declared.value.Json.TheVariants.{Dict}
use Rattle.asl_history.specs.declared.kind.EventKind.{EventKind}
use Rattle.asl_history.specs.declared.kind.EventKind.TheVariants.{ExecutionSucceeded, ExecutionFailed, MapIterationStarted, MapIterationSucceeded, MapIterationFailed}
use Rattle.asl_step.specs.declared.effect.Effect.{Effect}
use Rattle.asl_step.specs.declared.effect.Progress.{Progress}
use Rattle.asl_step.specs.declared.effect.Draft.{Draft}
use Rattle.asl_step.specs.declared.effect.Children.TheVariants.{Kept, Forked as Made}
use Rattle.asl_step.specs.declared.effect.Ended.{Ended}
use Rattle.asl_step.specs.declared.effect.Ended.TheVariants.{Succeeded, Failed as EndedFailed}
use Rattle.asl_step.specs.declared.record.Record.{Record}
use Rattle.asl_step.specs.declared.record.Record.TheVariants.{New, Ready, Pausing, Again, Forked, Done, Failed}
use Rattle.asl_step.specs.declared.record.ErrorOut.{ErrorOut}
use Rattle.asl_step.specs.Records.{name_in, entered_at, uses_in, uses_from, uses_after}
use Rattle.asl_step.specs.Seen.{Seen}

abbrev pub draft : EventKind → List ℕ → Json → Draft
draft kind name body = record { kind = kind; name = name; body = body }

-- nothing happens
abbrev pub idle : Record → Effect
idle r = record { after = r; children = Kept; raises = false; events = []; outcome = None }

-- ---- events of a Map's iteration

-- the number of the branch at this place among its siblings
abbrev pub number_at : List ℕ → ℕ
number_at p = slice_index p (length p - 1)

abbrev pub index_of : List ℕ → Json
index_of p = Dict ((codes "index", number (signed_decimal (pos (number_at p)))) ∷ [])

-- an event of the iteration at this place; none where the branch there is none
abbrev pub iteration_event : EventKind → Option (List ℕ) → List ℕ → List Draft
iteration_event kind None p = []
iteration_event kind (Some m) p = draft kind m (index_of p) ∷ []

-- ---- a state is entered

-- an iteration that hasn't begun begins
abbrev pub told_begin : Record → Option (List ℕ) → List ℕ → List Draft
told_begin (New n x) forker p = iteration_event MapIterationStarted forker p
told_begin _ forker p = []

abbrev pub entering : Seen → EventKind → Json → Progress
entering v entered x = record {
  children = Kept;
  raises = false;
  events = told_begin v.current v.forker v.place ++ draft entered (name_in v.current) x ∷ [];
}

-- nothing was done yet
abbrev pub unstarted : Progress
unstarted = record { children = Kept; raises = false; events = [] }

-- a state that is retried isn't entered anew
abbrev pub beginning_by : Seen → EventKind → Json → Record → Progress
beginning_by v entered x (Again n y since uses until) = unstarted
beginning_by v entered x _ = entering v entered x

abbrev pub beginning : Seen → EventKind → Json → Progress
beginning v entered x = beginning_by v entered x v.current

-- one more event of the state
abbrev pub telling : Seen → Progress → EventKind → Json → Progress
telling v done kind body =
    record done { events = done.events ++ draft kind (name_in v.current) body ∷ [] }

-- ---- a state is retried

-- the branch waits until a moment, and one of so many retriers was used once more
abbrev pub retrying : Seen → Progress → Json → ℕ → ℕ → ℕ → Effect
retrying v done x n i until = record {
  after =
      Again (name_in v.current) x (entered_at v.moment v.current)
      (uses_after n i (uses_in v.current)) until;
  children = done.children;
  raises = done.raises;
  events = done.events;
  outcome = None;
}

-- ---- a state forks

-- the state waits for these branches. It keeps its raw input x, when it was entered, and how often
-- each of its so many retriers
-- was used; items are a Map's
abbrev pub forking : Seen → Progress → Json → ℕ → List Data → List Record → Effect
forking v done x retriers items branches = record {
  after =
      Forked (name_in v.current) x (entered_at v.moment v.current)
      (uses_from retriers (uses_in v.current)) items;
  children = Made branches;
  raises = done.raises;
  events = done.events;
  outcome = None;
}

-- ---- a state pauses

-- the branch waits until a moment, with the state's raw input
abbrev pub pausing : Seen → Progress → Json → ℕ → Effect
pausing v done x until = record {
  after = Pausing (name_in v.current) x v.moment until;
  children = done.children;
  raises = done.raises;
  events = done.events;
  outcome = None;
}

-- ---- a state is left

-- the branch goes on to the next state with this data, or ends with it
abbrev pub moved : Option (List ℕ) → Json → Record
moved None x = Done x
moved (Some n) x = Ready n x

-- the outcome, where the branch at the root ends
abbrev pub ended : Option (List ℕ) → List ℕ → Json → Option Ended
ended None [] x = Some (Succeeded x)
ended None (i ∷ p) x = None
ended (Some n) p x = None

-- what tells that a branch ends: the execution's own event, or the iteration's
abbrev pub told_success : Option (List ℕ) → Option (List ℕ) → List ℕ → Json → List Draft
told_success None forker [] x = draft ExecutionSucceeded [] x ∷ []
told_success None forker (i ∷ p) x = iteration_event MapIterationSucceeded forker (i ∷ p)
told_success (Some n) forker p x = []

-- whatever the output's size
abbrev pub left : Seen → Progress → EventKind → Option (List ℕ) → Json → Effect
left v done exited next x = record {
  after = moved next x;
  children = done.children;
  raises = done.raises;
  events =
      (done.events ++ draft exited (name_in v.current) x ∷ [])
      ++ told_success next v.forker v.place x;
  outcome = ended next v.place x;
}

-- ---- a branch fails

abbrev pub opt : List ℕ → Option (List ℕ) → List (List ℕ × Data)
opt k None = []
opt k (Some t) = (k, text t) ∷ []

-- the error output: an object of the error and its cause, each where there is one
abbrev pub error_output : ErrorOut → Json
error_output e = Dict (opt (codes "Error") e.error ++ opt (codes "Cause") e.cause)

abbrev pub failed : List ℕ → ErrorOut → Option Ended
failed [] e = Some (EndedFailed e)
failed (i ∷ p) e = None

abbrev pub told_failure : Option (List ℕ) → List ℕ → ErrorOut → List Draft
told_failure forker [] e = draft ExecutionFailed [] (error_output e) ∷ []
told_failure forker (i ∷ p) e = iteration_event MapIterationFailed forker (i ∷ p)

abbrev pub failing : Seen → Progress → ErrorOut → Effect
failing v done e = record {
  after = Failed e;
  children = done.children;
  raises = done.raises;
  events = done.events ++ told_failure v.forker v.place e;
  outcome = failed v.place e;
}

-- ---- the data limit (Step Functions Developer Guide, "Quotas": the size of a state's output, and
-- of what a service answers)

-- the most bytes of its compact text
abbrev pub data_limit : ℕ
data_limit = 262_144

abbrev pub is_within_limit : Json → Bool
is_within_limit x = nat_le (length (compact (data_of x))) data_limit

abbrev pub over_limit : ErrorOut
over_limit =
    record { error = Some (codes "States.DataLimitExceeded"); cause = Some (codes "data limit") }

-- a state is left with this output; one above the limit is an error, which nothing retries or
-- catches
abbrev pub leaving : Seen → Progress → EventKind → Option (List ℕ) → Json → Effect
leaving v done exited next x =
    if is_within_limit x then left v done exited next x else failing v done over_limit
