-- The format `github`: a workflow command for each finding, on a line of its own (GitHub Docs, "Workflow commands for GitHub Actions").
use Rattle.std.specs.Prelude.{ℕ, List, [], ◌∷◌, ◌++◌, ◌==◌, codes, if◌then◌else◌, string_bytes}
use Rattle.std.specs.Char.{encode_utf8}
use Rattle.std.specs.Fmt.{decimal}
use Rattle.std.specs.List.{flat_map}
use Rattle.std.specs.Str.{chars}
use Rattle.asl_lint.specs.declared.finding.Finding.{Finding}
use Rattle.asl_lint.specs.declared.report.FileReport.{FileReport}
use Rattle.asl_lint.specs.Lines.{line_of, column_of}
use Rattle.asl_lint.specs.Rules.{severity_of, word_of, rule_name}

-- ---- escapes

-- of what stands behind the second pair of colons
abbrev pub data_char : ℕ → List ℕ
data_char c =
    if c == 37 then codes "%25"
    else (if c == 13 then codes "%0D" else (if c == 10 then codes "%0A" else encode_utf8 c))

-- of the value of a property, where a colon would end the properties, and a comma this one
abbrev pub property_char : ℕ → List ℕ
property_char c =
    if c == 58 then codes "%3A" else (if c == 44 then codes "%2C" else data_char c)

abbrev pub data_text : List ℕ → List ℕ
data_text t = flat_map data_char (chars t)

abbrev pub property_text : List ℕ → List ℕ
property_text t = flat_map property_char (chars t)

-- ---- commands

-- file=FILE,line=LINE,col=COLUMN,title=NAME
abbrev pub properties : List ℕ → Finding → List ℕ
properties file f =
    codes "file=" ++ (property_text file
    ++ (codes ",line=" ++ (decimal (line_of f)
    ++ (codes ",col=" ++ (decimal (column_of f)
    ++ (codes ",title=" ++ property_text (rule_name f.rule)))))))

-- ::error PROPERTIES::MESSAGE
unfoldable pub command_line : List ℕ → Finding → List ℕ
command_line file f =
    codes "::" ++ (word_of (severity_of f.rule)
    ++ (codes " " ++ (properties file f
    ++ (codes "::" ++ (data_text (string_bytes f.message) ++ 10 ∷ [])))))

abbrev pub file_commands : FileReport → List ℕ
file_commands r = flat_map (command_line r.name.now) r.findings.items

-- those of each file, in order
abbrev pub github_text : List FileReport → List ℕ
github_text rs = flat_map file_commands rs
