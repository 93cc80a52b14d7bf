-- How a rule is named, how bad it is, and what it says.
use Rattle.std.specs.Prelude.{ℕ, List, codes, if◌then◌else◌}
use Rattle.asl_def_schema.specs.declared.fault.FaultKind.{FaultKind}
use Rattle.asl_def_schema.specs.declared.fault.FaultKind.TheVariants as fault
use Rattle.asl_lint_warnings.specs.declared.warning.WarningKind.{WarningKind}
use Rattle.asl_lint_warnings.specs.declared.warning.WarningKind.TheVariants as warning
use Rattle.asl_lint_warnings.specs.Kinds.{name_of}
use Rattle.asl_lint.specs.declared.rule.Severity.{Severity}
use Rattle.asl_lint.specs.declared.rule.Severity.TheVariants as severity
use Rattle.asl_lint.specs.declared.rule.Rule.{Rule}
use Rattle.asl_lint.specs.declared.rule.Rule.TheVariants as rule
use Rattle.asl_lint.specs.declared.rule.MockRule.{MockRule}
use Rattle.asl_lint.specs.declared.rule.MockRule.TheVariants as mock
use Rattle.asl_lint.specs.declared.rule.FileRule.{FileRule}
use Rattle.asl_lint.specs.declared.rule.FileRule.TheVariants as file
use Rattle.asl_lint.specs.Reports.{is_error}

abbrev pub severity_of : Rule → Severity
severity_of r = if is_error r then severity.Error else severity.Warning

unfoldable pub word_of : Severity → List ℕ
word_of severity.Error = codes "error"
word_of severity.Warning = codes "warning"

-- ---- names

unfoldable pub mock_name : MockRule → List ℕ
mock_name mock.Json = codes "M1"
mock_name mock.Shape = codes "M2"
mock_name mock.Key = codes "M3"
mock_name mock.Overlap = codes "M4"
mock_name mock.NoResponse = codes "M5"
mock_name mock.NoMachine = codes "M7"
mock_name mock.UnknownState = codes "unknown-state"
mock_name mock.NotTask = codes "not-a-task"
mock_name mock.UnansweredTask = codes "unanswered-task"
mock_name mock.UnusedResponse = codes "unused-response"
mock_name mock.MissingAnswer = codes "missing-answer"

unfoldable pub fault_name : FaultKind → List ℕ
fault_name fault.NotObject = codes "F2"
fault_name fault.Missing = codes "F3"
fault_name fault.UnknownField = codes "F4"
fault_name fault.Unsupported = codes "F5"
fault_name fault.WrongType = codes "F6"
fault_name fault.Range = codes "F7"
fault_name fault.Both = codes "F8"
fault_name fault.Neither = codes "F9"
fault_name fault.NoTarget = codes "F10"
fault_name fault.DuplicateState = codes "F11"
fault_name fault.AllNotLast = codes "F12"
fault_name fault.Path = codes "F13"
fault_name fault.Expression = codes "F14"
fault_name fault.Nesting = codes "F15"

unfoldable pub file_name : FileRule → List ℕ
file_name file.Kind = codes "kind"
file_name file.Syntax = codes "J1"
file_name file.Duplicate = codes "J2"
file_name file.Depth = codes "J3"
file_name file.Number = codes "J4"
file_name file.Size = codes "J5"
file_name file.Utf8 = codes "J6"
file_name file.ExpectJson = codes "X1"
file_name file.ExpectShape = codes "X2"
file_name file.NoCase = codes "nocase"
file_name file.StepLine = codes "E1"
file_name file.ScriptLine = codes "E2"

unfoldable pub rule_name : Rule → List ℕ
rule_name rule.Json = codes "F1"
rule_name (rule.Fault k) = fault_name k
rule_name (rule.Warning k) = name_of k
rule_name (rule.Mock r) = mock_name r
rule_name (rule.File r) = file_name r

-- ---- sentences

unfoldable pub fault_sentence : FaultKind → List ℕ
fault_sentence fault.NotObject = codes "The definition isn't an object."
fault_sentence fault.Missing = codes "A required member is missing."
fault_sentence fault.UnknownField = codes "The object may not have this member."
fault_sentence fault.Unsupported = codes "Something of the language isn't supported."
fault_sentence fault.WrongType = codes "A value is of a wrong type."
fault_sentence fault.Range = codes "A value is outside its range."
fault_sentence fault.Both = codes "Two members are there that exclude each other."
fault_sentence fault.Neither = codes "None of the members is there of which one has to be."
fault_sentence fault.NoTarget = codes "No state of the same machine has this name."
fault_sentence fault.DuplicateState = codes "An earlier state of the definition has this name."
fault_sentence fault.AllNotLast =
    codes "States.ALL isn't alone, or isn't in the last retrier or catcher."
fault_sentence fault.Path = codes "A text isn't a path of the supported kind."
fault_sentence fault.Expression = codes "A text isn't a call of an intrinsic function."
fault_sentence fault.Nesting = codes "A machine is inside 16 others."

unfoldable pub warning_sentence : WarningKind → List ℕ
warning_sentence warning.UnreachableState = codes "Nothing leads to a state."
warning_sentence warning.NoEnd = codes "From a state no end can be reached."
warning_sentence warning.NoDefault = codes "A Choice has no Default."
warning_sentence warning.OwnDefault = codes "The Default of a Choice leads back to it."
warning_sentence warning.RepeatedRule = codes "An earlier rule of the Choice has the same test."
warning_sentence warning.ImpossibleAnd = codes "Two rules of an And never hold both."
warning_sentence warning.EndlessWait = codes "A Task that waits for a token has no time limit."
warning_sentence warning.UnsentToken =
    codes "A Task that waits for a token gives it to nobody."
warning_sentence warning.HeartbeatNotShorter =
    codes "A heartbeat isn't shorter than the time limit."
warning_sentence warning.LimitBelowWait =
    codes "A Wait lasts as long as the time limit, or longer."
warning_sentence warning.UnaskedHandler =
    codes "Retriers or catchers before it are for all that this one names."
warning_sentence warning.UnknownError = codes "No error of the language has this name."
warning_sentence warning.RepeatedError = codes "The list names this error before."
warning_sentence warning.UnusedDelay =
    codes "A retrier that never retries says how long it waits."
warning_sentence warning.MaxDelayBelowInterval =
    codes "The longest delay of a retrier is shorter than the first one."
warning_sentence warning.ForgottenDollar =
    codes "A text of a template looks like a path or a call and is none."
warning_sentence warning.NotComputed = codes "A value that stays as it is looks computed."
warning_sentence warning.UnknownContextMember =
    codes "The Context Object never has what a path names."
warning_sentence warning.FailingCall =
    codes "A call of an intrinsic function fails on each input."

unfoldable pub mock_sentence : MockRule → List ℕ
mock_sentence mock.Json = codes "The mock file is no JSON text."
mock_sentence mock.Shape = codes "A value of the mock file doesn't fit."
mock_sentence mock.Key = codes "The key of an answer is neither a number nor a range of numbers."
mock_sentence mock.Overlap = codes "An answer has a number of an earlier one."
mock_sentence mock.NoResponse = codes "A case names a response that isn't there."
mock_sentence mock.NoMachine =
    codes "It isn't clear which machine of the mock file the definition is."
mock_sentence mock.UnknownState =
    codes "A case has an answer for what is no state of the definition."
mock_sentence mock.NotTask = codes "A case has an answer for a state that is no Task."
mock_sentence mock.UnansweredTask = codes "No case of the mock file has an answer for this Task."
mock_sentence mock.UnusedResponse = codes "No case names this response."
mock_sentence mock.MissingAnswer = codes "A response leaves out a number below its last one."

unfoldable pub file_sentence : FileRule → List ℕ
file_sentence file.Kind = codes "It isn't clear what the file is."
file_sentence file.Syntax = codes "The input isn't written as JSON is."
file_sentence file.Duplicate = codes "An object of the input has a key twice."
file_sentence file.Depth = codes "Lists and objects of the input stand too deep."
file_sentence file.Number = codes "A number of the input is past the limits."
file_sentence file.Size = codes "The input is too long."
file_sentence file.Utf8 = codes "Bytes of the input are no UTF-8."
file_sentence file.ExpectJson = codes "The expectation file is no JSON text."
file_sentence file.ExpectShape = codes "A value of the expectation file doesn't fit."
file_sentence file.NoCase = codes "A test names a test case that the mock file doesn't have."
file_sentence file.StepLine = codes "A line of the steps file is no step."
file_sentence file.ScriptLine = codes "A line of the script is no command."

unfoldable pub sentence : Rule → List ℕ
sentence rule.Json = codes "The definition is no JSON text."
sentence (rule.Fault k) = fault_sentence k
sentence (rule.Warning k) = warning_sentence k
sentence (rule.Mock r) = mock_sentence r
sentence (rule.File r) = file_sentence r
