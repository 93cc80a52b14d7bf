-- The format `json`: an object for each finding, on a line of its own.
use Rattle.std.specs.Prelude.{ℕ, List, [], ◌∷◌, ◌++◌, codes, string_bytes}
use Rattle.std.specs.List.{flat_map}
use Rattle.std.specs.Fmt.{decimal}
use Rattle.asl_json_data.specs.Data.{Data, number, text, dict, pairs}
use Rattle.asl_json_data.specs.Compact.{compact}
use Rattle.asl_lint.specs.declared.finding.Finding.{Finding}
use Rattle.asl_lint.specs.declared.report.FileReport.{FileReport}
use Rattle.asl_lint.specs.Lines.{line_of, column_of}
use Rattle.asl_lint.specs.Rules.{severity_of, word_of, rule_name}

-- an object of these members
abbrev pub object : List (List ℕ × Data) → Data
object ms = dict (pairs ms)

-- a number in plain decimal
abbrev pub counting : ℕ → Data
counting n = number (decimal n)

-- line and column from 1, begin and end in bytes from 0
abbrev pub finding_object : List ℕ → Finding → Data
finding_object file f =
    object
    ((codes "file", text file)
    ∷ (codes "line", counting (line_of f))
    ∷ (codes "column", counting (column_of f))
    ∷ (codes "begin", counting f.span.begin)
    ∷ (codes "end", counting f.span.end)
    ∷ (codes "severity", text (word_of (severity_of f.rule)))
    ∷ (codes "name", text (rule_name f.rule))
    ∷ (codes "message", text (string_bytes f.message))
    ∷ [])

unfoldable pub json_line : List ℕ → Finding → List ℕ
json_line file f = compact (finding_object file f) ++ 10 ∷ []

abbrev pub file_json_lines : FileReport → List ℕ
file_json_lines r = flat_map (json_line r.name.now) r.findings.items

-- those of each file, in order
abbrev pub json_lines : List FileReport → List ℕ
json_lines rs = flat_map file_json_lines rs
