-- The names of the warnings, and a warning at its place.
use Rattle.std.specs.Prelude.{ℕ, List, [], ◌∷◌, Bool, Option, Some, None, codes, if◌then◌else◌}
use Rattle.asl_def_schema.specs.declared.fault.Step.{Step}
use Rattle.asl_lint_warnings.specs.declared.warning.WarningKind.{WarningKind}
use Rattle.asl_lint_warnings.specs.declared.warning.WarningKind.TheVariants as kind

abbrev pub name_of : WarningKind → List ℕ
name_of kind.UnreachableState = codes "unreachable-state"
name_of kind.NoEnd = codes "no-end"
name_of kind.NoDefault = codes "no-default"
name_of kind.OwnDefault = codes "own-default"
name_of kind.RepeatedRule = codes "repeated-rule"
name_of kind.ImpossibleAnd = codes "impossible-and"
name_of kind.EndlessWait = codes "endless-wait"
name_of kind.UnsentToken = codes "unsent-token"
name_of kind.HeartbeatNotShorter = codes "heartbeat-not-shorter"
name_of kind.LimitBelowWait = codes "limit-below-wait"
name_of kind.UnaskedHandler = codes "unasked-handler"
name_of kind.UnknownError = codes "unknown-error"
name_of kind.RepeatedError = codes "repeated-error"
name_of kind.UnusedDelay = codes "unused-delay"
name_of kind.MaxDelayBelowInterval = codes "max-delay-below-interval"
name_of kind.ForgottenDollar = codes "forgotten-dollar"
name_of kind.NotComputed = codes "not-computed"
name_of kind.UnknownContextMember = codes "unknown-context-member"
name_of kind.FailingCall = codes "failing-call"

-- a warning and the steps to its place, the innermost first
abbrev pub Noted : Type 0
Noted = WarningKind × List Step

abbrev pub kind_if : Bool → WarningKind → Option WarningKind
kind_if b k = if b then Some k else None

-- at a place
abbrev pub noted : List Step → Option WarningKind → List Noted
noted place None = []
noted place (Some k) = (k, place) ∷ []
