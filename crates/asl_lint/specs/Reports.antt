-- Whether anything is wrong, and how much.
use Rattle.std.specs.Prelude.{ℕ, ◌+◌, List, [], ◌∷◌, Bool, true, false, ◌||◌, not, count_by}
use Rattle.std.specs.List.{list_any}
use Rattle.asl_lint.specs.declared.rule.Rule.{Rule}
use Rattle.asl_lint.specs.declared.rule.Rule.TheVariants as rule
use Rattle.asl_lint.specs.declared.rule.Severity.{Severity}
use Rattle.asl_lint.specs.declared.rule.Severity.TheVariants as severity
use Rattle.asl_lint.specs.declared.rule.MockRule.{MockRule}
use Rattle.asl_lint.specs.declared.rule.MockRule.TheVariants as mock
use Rattle.asl_lint.specs.declared.finding.Finding.{Finding}
use Rattle.asl_lint.specs.declared.report.FileReport.{FileReport}

-- of a mock file

abbrev pub is_mock_error : MockRule → Bool
is_mock_error mock.UnansweredTask = false
is_mock_error mock.UnusedResponse = false
is_mock_error mock.MissingAnswer = false
is_mock_error _ = true

-- an error is refused; a warning is accepted, and surely isn't meant
abbrev pub is_error : Rule → Bool
is_error rule.Json = true
is_error (rule.Fault k) = true
is_error (rule.Warning k) = false
is_error (rule.Mock r) = is_mock_error r
is_error (rule.File r) = true

-- where warnings count as errors, each finding counts
abbrev pub counts : Bool → Finding → Bool
counts strict f = strict || is_error f.rule

-- one of these counts
abbrev pub has_any : Bool → List Finding → Bool
has_any strict fs = list_any (counts strict) fs

-- whether nothing is wrong in these files
abbrev pub is_good : Bool → List FileReport → Bool
is_good strict rs = not (list_any (λ (r : FileReport). has_any strict r.findings.items) rs)

-- ---- how much

abbrev pub is_of : Severity → Finding → Bool
is_of severity.Error f = is_error f.rule
is_of severity.Warning f = not (is_error f.rule)

-- how many findings in these files are so bad
abbrev pub count : Severity → List FileReport → ℕ
count s [] = 0
count s (r ∷ rs) = count_by (is_of s) r.findings.items + count s rs
