-- No rule's sentence is empty.
use Rattle.std.proofs.Common.{◌≡◌, ℕ, true, List, [], ◌∷◌, ◌++◌, refl}
use Rattle.asl_def_schema.specs.declared.fault.FaultKind.{FaultKind}
use Rattle.asl_def_schema.specs.declared.fault.FaultKind.TheVariants as fault
use Rattle.asl_lint_warnings.specs.declared.warning.WarningKind.{WarningKind}
use Rattle.asl_lint_warnings.specs.declared.warning.WarningKind.TheVariants as warning
use Rattle.asl_lint.specs.declared.rule.Rule.{Rule}
use Rattle.asl_lint.specs.declared.rule.Rule.TheVariants as rule
use Rattle.asl_lint.specs.declared.rule.MockRule.{MockRule}
use Rattle.asl_lint.specs.declared.rule.MockRule.TheVariants as mock
use Rattle.asl_lint.specs.declared.rule.FileRule.{FileRule}
use Rattle.asl_lint.specs.declared.rule.FileRule.TheVariants as file
use Rattle.asl_lint.specs.Rules.{fault_sentence, warning_sentence, mock_sentence, file_sentence, sentence}
use Rattle.asl_lint.specs.Told.{has_some}

fault_says : (k : FaultKind) → has_some (fault_sentence k) ≡ true
unfolding fault_sentence
fault_says fault.NotObject = refl
fault_says fault.Missing = refl
fault_says fault.UnknownField = refl
fault_says fault.Unsupported = refl
fault_says fault.WrongType = refl
fault_says fault.Range = refl
fault_says fault.Both = refl
fault_says fault.Neither = refl
fault_says fault.NoTarget = refl
fault_says fault.DuplicateState = refl
fault_says fault.AllNotLast = refl
fault_says fault.Path = refl
fault_says fault.Expression = refl
fault_says fault.Nesting = refl

warning_says : (k : WarningKind) → has_some (warning_sentence k) ≡ true
unfolding warning_sentence
warning_says warning.UnreachableState = refl
warning_says warning.NoEnd = refl
warning_says warning.NoDefault = refl
warning_says warning.OwnDefault = refl
warning_says warning.RepeatedRule = refl
warning_says warning.ImpossibleAnd = refl
warning_says warning.EndlessWait = refl
warning_says warning.UnsentToken = refl
warning_says warning.HeartbeatNotShorter = refl
warning_says warning.LimitBelowWait = refl
warning_says warning.UnaskedHandler = refl
warning_says warning.UnknownError = refl
warning_says warning.RepeatedError = refl
warning_says warning.UnusedDelay = refl
warning_says warning.MaxDelayBelowInterval = refl
warning_says warning.ForgottenDollar = refl
warning_says warning.NotComputed = refl
warning_says warning.UnknownContextMember = refl
warning_says warning.FailingCall = refl

mock_says : (r : MockRule) → has_some (mock_sentence r) ≡ true
unfolding mock_sentence
mock_says mock.Json = refl
mock_says mock.Shape = refl
mock_says mock.Key = refl
mock_says mock.Overlap = refl
mock_says mock.NoResponse = refl
mock_says mock.NoMachine = refl
mock_says mock.UnknownState = refl
mock_says mock.NotTask = refl
mock_says mock.UnansweredTask = refl
mock_says mock.UnusedResponse = refl
mock_says mock.MissingAnswer = refl

file_says : (r : FileRule) → has_some (file_sentence r) ≡ true
unfolding file_sentence
file_says file.Kind = refl
file_says file.Syntax = refl
file_says file.Duplicate = refl
file_says file.Depth = refl
file_says file.Number = refl
file_says file.Size = refl
file_says file.Utf8 = refl
file_says file.ExpectJson = refl
file_says file.ExpectShape = refl
file_says file.NoCase = refl
file_says file.StepLine = refl
file_says file.ScriptLine = refl

pub says : (r : Rule) → has_some (sentence r) ≡ true
unfolding sentence
says rule.Json = refl
says (rule.Fault k) = fault_says k
says (rule.Warning k) = warning_says k
says (rule.Mock r) = mock_says r
says (rule.File r) = file_says r

pub says_behind : (front behind : List ℕ) → has_some behind ≡ true → has_some (front ++ behind) ≡ true
says_behind [] behind h = h
says_behind (b ∷ front) behind h = refl
