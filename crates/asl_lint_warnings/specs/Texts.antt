-- What a text is warned of.
use Rattle.std.specs.Prelude.{ℕ, List, [], ◌∷◌, Bool, true, false, ◌||◌, ◌&&◌, not, ◌==◌, Option, Some, None, is_some, if◌then◌else◌, codes, nat_eq, nat_lt, length, take, drop}
use Rattle.std.specs.Char.{eq_ignore_ascii_case, is_ascii_digit}
use Rattle.std.specs.List.{starts_with}
use Rattle.std.specs.Str.{str_eq_ignore_ascii_case}
use Rattle.asl_json.specs.Same.{bytes_eq}
use Rattle.asl_def_schema.specs.declared.sort.Sort.{Sort}
use Rattle.asl_def_schema.specs.declared.sort.Sort.TheVariants as sort
use Rattle.asl_def_schema.specs.Members.{is_among}
use Rattle.asl_lint_calls.specs.Failing.{failing}
use Rattle.asl_lint_warnings.specs.declared.warning.WarningKind.{WarningKind}
use Rattle.asl_lint_warnings.specs.declared.warning.WarningKind.TheVariants as kind
use Rattle.asl_lint_warnings.specs.Kinds.{kind_if}

abbrev pub begins : List ℕ → List ℕ → Bool
begins t front = starts_with nat_eq t front

abbrev pub begins_any : List ℕ → List (List ℕ) → Bool
begins_any t [] = false
begins_any t (front ∷ fronts) = begins t front || begins_any t fronts

-- the errors of the language (Amazon States Language, "Errors", appendix A; Developer Guide,
-- "Handling errors")
unfoldable pub error_names : List (List ℕ)
error_names =
    codes "States.ALL"
    ∷ codes "States.HeartbeatTimeout"
    ∷ codes "States.Timeout"
    ∷ codes "States.TaskFailed"
    ∷ codes "States.Permissions"
    ∷ codes "States.ResultPathMatchFailure"
    ∷ codes "States.ParameterPathFailure"
    ∷ codes "States.QueryEvaluationError"
    ∷ codes "States.BranchFailed"
    ∷ codes "States.NoChoiceMatched"
    ∷ codes "States.IntrinsicFailure"
    ∷ codes "States.ExceedToleratedFailureThreshold"
    ∷ codes "States.ItemReaderFailed"
    ∷ codes "States.ResultWriterFailed"
    ∷ codes "States.DataLimitExceeded"
    ∷ codes "States.Runtime"
    ∷ codes "States.Http.Socket"
    ∷ []

-- the error of an answer over HTTP with this status (Developer Guide, "Handling errors"):
-- `States.Http.StatusCode.404`

unfoldable pub status_front : List ℕ
status_front = codes "States.Http.StatusCode."

abbrev pub are_digits : List ℕ → Bool
are_digits [] = true
are_digits (c ∷ cs) = is_ascii_digit c && are_digits cs

abbrev pub is_status : List ℕ → Bool
is_status t = (length t == 3) && are_digits t

abbrev pub is_status_error : List ℕ → Bool
is_status_error t =
    bytes_eq (take (length status_front) t) status_front && is_status (drop (length status_front) t)

-- the same but for the case of ASCII letters, and but for one byte that only one of them has
abbrev pub is_near : List ℕ → List ℕ → Bool
is_near [] u = nat_lt (length u) 2
is_near (c ∷ cs) [] = nat_lt (length (c ∷ cs)) 2
is_near (c ∷ cs) (d ∷ ds) =
    if eq_ignore_ascii_case c d then is_near cs ds
    else str_eq_ignore_ascii_case (c ∷ cs) ds || str_eq_ignore_ascii_case cs (d ∷ ds)

abbrev pub is_near_any : List ℕ → List (List ℕ) → Bool
is_near_any t [] = false
is_near_any t (name ∷ names) = is_near t name || is_near_any t names

-- no error has a name that is of the language's own, or that is near one of these
abbrev pub is_unknown_error : List ℕ → Bool
is_unknown_error t =
    (begins t (codes "States.") || is_near_any t error_names)
    && not (is_among t error_names) && not (is_status_error t)

-- the parts of the Context Object
unfoldable pub context_parts : List (List ℕ)
context_parts =
    codes "$$.Execution"
    ∷ codes "$$.Execution.Id"
    ∷ codes "$$.Execution.Name"
    ∷ codes "$$.Execution.Input"
    ∷ codes "$$.Execution.StartTime"
    ∷ codes "$$.State"
    ∷ codes "$$.State.Name"
    ∷ codes "$$.State.EnteredTime"
    ∷ codes "$$.State.RetryCount"
    ∷ codes "$$.StateMachine"
    ∷ codes "$$.StateMachine.Id"
    ∷ codes "$$.StateMachine.Name"
    ∷ codes "$$.Task"
    ∷ codes "$$.Task.Token"
    ∷ codes "$$.Map"
    ∷ codes "$$.Map.Item"
    ∷ codes "$$.Map.Item.Index"
    ∷ codes "$$.Map.Item.Value"
    ∷ []

-- the input and an item have any shape; a step in brackets isn't judged
unfoldable pub context_fronts : List (List ℕ)
context_fronts =
    codes "$$.Execution.Input."
    ∷ codes "$$.Execution.Input["
    ∷ codes "$$.Map.Item.Value."
    ∷ codes "$$.Map.Item.Value["
    ∷ codes "$$.Execution["
    ∷ codes "$$.State["
    ∷ codes "$$.StateMachine["
    ∷ codes "$$.Task["
    ∷ codes "$$.Map["
    ∷ codes "$$.Map.Item["
    ∷ []

-- a path on the Context Object names a part that it never has
abbrev pub is_unknown_part : List ℕ → Bool
is_unknown_part t =
    begins t (codes "$$.")
    && not (is_among t context_parts) && not (begins_any t context_fronts)

-- how paths and calls of the intrinsic functions begin (Amazon States Language, "Paths", "Intrinsic
-- Functions")
unfoldable pub computed_fronts : List (List ℕ)
computed_fronts =
    codes "$."
    ∷ codes "$["
    ∷ codes "$$."
    ∷ codes "$$["
    ∷ codes "States.Array("
    ∷ codes "States.ArrayContains("
    ∷ codes "States.ArrayGetItem("
    ∷ codes "States.ArrayLength("
    ∷ codes "States.ArrayPartition("
    ∷ codes "States.ArrayRange("
    ∷ codes "States.ArrayUnique("
    ∷ codes "States.Base64Decode("
    ∷ codes "States.Base64Encode("
    ∷ codes "States.Format("
    ∷ codes "States.Hash("
    ∷ codes "States.JsonMerge("
    ∷ codes "States.JsonToString("
    ∷ codes "States.MathAdd("
    ∷ codes "States.MathRandom("
    ∷ codes "States.StringSplit("
    ∷ codes "States.StringToJson("
    ∷ codes "States.UUID("
    ∷ []

-- a text looks like a path or a call
abbrev pub seems_computed : List ℕ → Bool
seems_computed t = begins_any t computed_fronts

-- it is the path of the whole input, or of the whole Context Object
abbrev pub is_root : List ℕ → Bool
is_root t = bytes_eq t (codes "$") || bytes_eq t (codes "$$")

-- of a call
abbrev pub call_kind : List ℕ → Option WarningKind
call_kind t = kind_if (is_some (failing t)) kind.FailingCall

-- of a path or a call
abbrev pub computed_kind : List ℕ → Option WarningKind
computed_kind t = if is_unknown_part t then Some kind.UnknownContextMember else call_kind t

-- of a text of this sort
abbrev pub text_kind : Sort → List ℕ → Option WarningKind
text_kind sort.Template t = kind_if (is_root t || seems_computed t) kind.ForgottenDollar
text_kind sort.Path t = kind_if (is_unknown_part t) kind.UnknownContextMember
text_kind sort.PathOrNull t = kind_if (is_unknown_part t) kind.UnknownContextMember
text_kind sort.PathOrCall t = computed_kind t
text_kind sort.Computed t = computed_kind t
text_kind s t = None
