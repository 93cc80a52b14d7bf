-- What a state, a retrier and a time limit are warned of by themselves.
use Rattle.std.specs.Prelude.{ℕ, ℤ, List, [], ◌∷◌, Bool, true, false, ◌||◌, ◌&&◌, not, Option, Some, None, codes, nat_eq, is_some, int_lt, pos, if◌then◌else◌}
use Rattle.std.specs.List.{ends_with}
use Rattle.std.specs.Ordering.{int_eq}
use Rattle.asl_json_data.specs.Data.{Data, text, number, dict, Pairs, no_members, member}
use Rattle.asl_json.specs.Same.{bytes_eq}
use Rattle.asl_json.specs.Meaning.{value_at}
use Rattle.asl_json_data.specs.Number.{units_of}
use Rattle.asl_def_schema.specs.declared.fault.Step.{Step}
use Rattle.asl_def_schema.specs.declared.sort.Kind.{Kind}
use Rattle.asl_def_schema.specs.declared.sort.Kind.TheVariants.{Choice, Fail, Task, Wait}
use Rattle.asl_def_schema.specs.Members.{kind_named}
use Rattle.asl_lint_warnings.specs.declared.warning.WarningKind.{WarningKind}
use Rattle.asl_lint_warnings.specs.declared.warning.WarningKind.TheVariants as kind
use Rattle.asl_lint_warnings.specs.Kinds.{kind_if}
use Rattle.asl_lint_warnings.specs.Texts.{seems_computed}
use Rattle.asl_lint_warnings.specs.Tokens.{sends_token}
use Rattle.asl_lint_warnings.specs.Graphs.{states_of}

abbrev pub has : List ℕ → Pairs → Bool
has k ms = is_some (value_at k ms)

-- the service gets a token, and its answer comes later (Developer Guide, "Wait for a Callback with
-- the Task Token")
abbrev pub is_waiting : Option Data → Bool
is_waiting (Some (text t)) = ends_with nat_eq t (codes ".waitForTaskToken")
is_waiting _ = false

abbrev pub is_limited : Pairs → Bool
is_limited ms =
    has (codes "TimeoutSeconds") ms || has (codes "TimeoutSecondsPath") ms
    || has (codes "HeartbeatSeconds") ms || has (codes "HeartbeatSecondsPath") ms

abbrev pub kind_by : Option Kind → Pairs → Option WarningKind
kind_by (Some Choice) ms = kind_if (not (has (codes "Default") ms)) kind.NoDefault
kind_by (Some Task) ms =
    kind_if (is_waiting (value_at (codes "Resource") ms) && not (is_limited ms)) kind.EndlessWait
kind_by _ ms = None

abbrev pub state_kind : Pairs → Option WarningKind
state_kind ms = kind_by (kind_named (value_at (codes "Type") ms)) ms

-- a heartbeat beside a time limit
abbrev pub heartbeat_kind : Data → Option Data → Option WarningKind
heartbeat_kind (number h) (Some (number l)) =
    kind_if (not (int_lt (units_of h) (units_of l))) kind.HeartbeatNotShorter
heartbeat_kind d o = None

-- a Fail puts out these texts as they are
abbrev pub is_fail_text : List ℕ → Bool
is_fail_text k = bytes_eq k (codes "Error") || bytes_eq k (codes "Cause")

abbrev pub is_fail : Option Kind → Bool
is_fail (Some Fail) = true
is_fail o = false

abbrev pub constant_kind : Data → Option WarningKind
constant_kind (text t) = kind_if (seems_computed t) kind.NotComputed
constant_kind d = None

abbrev pub is_task : Option Kind → Bool
is_task (Some Task) = true
is_task o = false

-- the Resource of a Task beside the others
abbrev pub resource_kind : Pairs → Data → Option WarningKind
resource_kind ms d = kind_if (is_waiting (Some d) && not (sends_token ms)) kind.UnsentToken

-- of the member of this key and value of a state
abbrev pub member_kind : Pairs → List ℕ → Data → Option WarningKind
member_kind ms k d =
    if bytes_eq k (codes "HeartbeatSeconds")
    then heartbeat_kind d (value_at (codes "TimeoutSeconds") ms)
    else (if is_fail_text k && is_fail (kind_named (value_at (codes "Type") ms))
    then constant_kind d
    else (if bytes_eq k (codes "Resource") && is_task (kind_named (value_at (codes "Type") ms))
    then resource_kind ms d else None))

-- ---- where a Choice goes on

-- the last of these steps is to a member of this name
abbrev pub is_named : List Step → List ℕ → Bool
is_named [] n = false
is_named (s ∷ ss) n = bytes_eq s.name n

-- the value at this place is in one of this name
abbrev pub is_inside : List Step → List ℕ → Bool
is_inside [] n = false
is_inside (s ∷ ss) n = is_named ss n

abbrev pub is_choice : Option Kind → Bool
is_choice (Some Choice) = true
is_choice o = false

-- its output is its raw input
abbrev pub keeps_input : Pairs → Bool
keeps_input ms = not (has (codes "InputPath") ms || has (codes "OutputPath") ms)

-- it is the Default of a Choice that puts out its input
abbrev pub is_default : Pairs → List ℕ → Bool
is_default ms k =
    bytes_eq k (codes "Default")
    && is_choice (kind_named (value_at (codes "Type") ms)) && keeps_input ms

-- of the member of this key and value of the state around this place
abbrev pub default_kind : List Step → Pairs → List ℕ → Data → Option WarningKind
default_kind place ms k (text t) = kind_if (is_default ms k && is_inside place t) kind.OwnDefault
default_kind place ms k d = None

-- ---- time limits

abbrev pub is_wait : Option Kind → Bool
is_wait (Some Wait) = true
is_wait o = false

abbrev pub is_as_long : ℤ → Option Data → Bool
is_as_long limit (Some (number n)) = not (int_lt (units_of n) limit)
is_as_long limit o = false

-- a state is a Wait for this time or longer
abbrev pub outlasts : ℤ → Data → Bool
outlasts limit (dict ms) =
    is_wait (kind_named (value_at (codes "Type") ms))
    && is_as_long limit (value_at (codes "Seconds") ms)
outlasts limit d = false

abbrev pub has_outlasting : ℤ → Pairs → Bool
has_outlasting limit no_members = false
has_outlasting limit (member k d ms) = outlasts limit d || has_outlasting limit ms

-- of the member of this key and value of the definition
abbrev pub limit_kind : Pairs → List ℕ → Data → Option WarningKind
limit_kind ms k (number n) =
    kind_if (bytes_eq k (codes "TimeoutSeconds") && has_outlasting (units_of n) (states_of ms))
    kind.LimitBelowWait
limit_kind ms k d = None

-- ---- retriers

abbrev pub has_delay : Pairs → Bool
has_delay ms =
    has (codes "IntervalSeconds") ms || has (codes "BackoffRate") ms
    || has (codes "MaxDelaySeconds") ms || has (codes "JitterStrategy") ms

-- without a retry nothing waits for one
abbrev pub attempts_kind : Data → Pairs → Option WarningKind
attempts_kind (number n) ms = kind_if (int_eq (units_of n) (pos 0) && has_delay ms) kind.UnusedDelay
attempts_kind d ms = None

-- the longest delay beside the first one
abbrev pub delay_kind : Data → Option Data → Option WarningKind
delay_kind (number most) (Some (number first)) =
    kind_if (int_lt (units_of most) (units_of first)) kind.MaxDelayBelowInterval
delay_kind d o = None

-- of the member of this key and value of a retrier
abbrev pub retrier_kind : Pairs → List ℕ → Data → Option WarningKind
retrier_kind ms k d =
    if bytes_eq k (codes "MaxAttempts") then attempts_kind d ms
    else (if bytes_eq k (codes "MaxDelaySeconds")
    then delay_kind d (value_at (codes "IntervalSeconds") ms) else None)
