-- The format `text`: a line for each finding, and how many there are.
use Rattle.std.specs.Prelude.{ℕ, ◌+◌, ◌==◌, ◌&&◌, List, [], ◌∷◌, ◌++◌, codes, if◌then◌else◌, string_bytes}
use Rattle.std.specs.List.{flat_map}
use Rattle.std.specs.Fmt.{decimal}
use Rattle.asl_text.specs.Shown.{shown}
use Rattle.asl_lint.specs.declared.finding.Finding.{Finding}
use Rattle.asl_lint.specs.declared.report.FileReport.{FileReport}
use Rattle.asl_lint.specs.declared.rule.Severity.TheVariants as severity
use Rattle.asl_lint.specs.Reports.{count, is_of}
use Rattle.asl_lint.specs.Rules.{severity_of, word_of, rule_name}

-- ---- a finding

-- its line and its column, from 1
abbrev pub line_of : Finding → ℕ
line_of f = f.position.lines + 1

abbrev pub column_of : Finding → ℕ
column_of f = f.position.characters + 1

-- FILE:LINE:COLUMN:
abbrev pub place_text : List ℕ → Finding → List ℕ
place_text file f =
    shown file
    ++ (codes ":" ++ (decimal (line_of f) ++ (codes ":" ++ (decimal (column_of f) ++ codes ": "))))

-- error F10: ..
abbrev pub told_text : Finding → List ℕ
told_text f =
    word_of (severity_of f.rule)
    ++ (codes " " ++ (rule_name f.rule ++ (codes ": " ++ string_bytes f.message)))

unfoldable pub finding_line : List ℕ → Finding → List ℕ
finding_line file f = place_text file f ++ (told_text f ++ 10 ∷ [])

-- nothing of one that is no error
abbrev pub error_line : List ℕ → Finding → List ℕ
error_line file f = if is_of severity.Error f then finding_line file f else []

-- the errors among these
abbrev pub error_lines : List ℕ → List Finding → List ℕ
error_lines file fs = flat_map (error_line file) fs

-- ---- how many there are

abbrev pub counted : ℕ → List ℕ → List ℕ
counted n word = decimal n ++ (codes " " ++ (word ++ (if n == 1 then [] else codes "s")))

unfoldable pub total_line : ℕ → ℕ → List ℕ
total_line errors warnings =
    (if errors == 0 && (warnings == 0) then codes "no findings"
    else counted errors (codes "error") ++ (codes ", " ++ counted warnings (codes "warning")))
    ++ 10 ∷ []

-- ---- all

-- the findings in a file
abbrev pub file_lines : FileReport → List ℕ
file_lines r = flat_map (finding_line r.name.now) r.findings.items

-- those of each file, in order
abbrev pub lines_of : List FileReport → List ℕ
lines_of rs =
    flat_map file_lines rs ++ total_line (count severity.Error rs) (count severity.Warning rs)
