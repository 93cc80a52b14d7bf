-- The format `sarif`: a log of one run (Static Analysis Results Interchange Format, version 2.1.0, OASIS).
use Rattle.std.specs.Prelude.{ℕ, List, [], ◌∷◌, ◌++◌, ◌==◌, ◌||◌, ◌/◌, ◌%◌, ◌+◌, nat_lt, Bool, true, false, codes, map, if◌then◌else◌, string_bytes}
use Rattle.std.specs.Char.{encode_utf8, is_ascii_alphanumeric}
use Rattle.std.specs.List.{flat_map}
use Rattle.asl_json_data.specs.Data.{Data, text, list, chain}
use Rattle.asl_json_data.specs.Compact.{compact}
use Rattle.asl_def_schema.specs.declared.fault.FaultKind.TheVariants as fault
use Rattle.asl_lint_warnings.specs.declared.warning.WarningKind.TheVariants as warning
use Rattle.asl_lint.specs.declared.rule.Rule.{Rule}
use Rattle.asl_lint.specs.declared.rule.Rule.TheVariants as rule
use Rattle.asl_lint.specs.declared.rule.MockRule.TheVariants as mock
use Rattle.asl_lint.specs.declared.rule.FileRule.TheVariants as file
use Rattle.asl_lint.specs.declared.finding.Finding.{Finding}
use Rattle.asl_lint.specs.declared.report.FileReport.{FileReport}
use Rattle.asl_lint.specs.JsonLines.{object, counting}
use Rattle.asl_lint.specs.Lines.{line_of, column_of}
use Rattle.asl_lint.specs.Rules.{severity_of, word_of, rule_name, sentence}

-- ---- rules (SARIF, section 3.49)

-- of definitions and mock files
unfoldable pub rules : List Rule
rules =
    rule.Json
    ∷ rule.Fault fault.NotObject
    ∷ rule.Fault fault.Missing
    ∷ rule.Fault fault.UnknownField
    ∷ rule.Fault fault.Unsupported
    ∷ rule.Fault fault.WrongType
    ∷ rule.Fault fault.Range
    ∷ rule.Fault fault.Both
    ∷ rule.Fault fault.Neither
    ∷ rule.Fault fault.NoTarget
    ∷ rule.Fault fault.DuplicateState
    ∷ rule.Fault fault.AllNotLast
    ∷ rule.Fault fault.Path
    ∷ rule.Fault fault.Expression
    ∷ rule.Fault fault.Nesting
    ∷ rule.Warning warning.UnreachableState
    ∷ rule.Warning warning.NoEnd
    ∷ rule.Warning warning.NoDefault
    ∷ rule.Warning warning.OwnDefault
    ∷ rule.Warning warning.RepeatedRule
    ∷ rule.Warning warning.ImpossibleAnd
    ∷ rule.Warning warning.EndlessWait
    ∷ rule.Warning warning.UnsentToken
    ∷ rule.Warning warning.HeartbeatNotShorter
    ∷ rule.Warning warning.LimitBelowWait
    ∷ rule.Warning warning.UnaskedHandler
    ∷ rule.Warning warning.UnknownError
    ∷ rule.Warning warning.RepeatedError
    ∷ rule.Warning warning.UnusedDelay
    ∷ rule.Warning warning.MaxDelayBelowInterval
    ∷ rule.Warning warning.ForgottenDollar
    ∷ rule.Warning warning.NotComputed
    ∷ rule.Warning warning.UnknownContextMember
    ∷ rule.Warning warning.FailingCall
    ∷ rule.Mock mock.Json
    ∷ rule.Mock mock.Shape
    ∷ rule.Mock mock.Key
    ∷ rule.Mock mock.Overlap
    ∷ rule.Mock mock.NoResponse
    ∷ rule.Mock mock.NoMachine
    ∷ rule.Mock mock.UnknownState
    ∷ rule.Mock mock.NotTask
    ∷ rule.Mock mock.UnansweredTask
    ∷ rule.Mock mock.UnusedResponse
    ∷ rule.Mock mock.MissingAnswer
    ∷ []

-- of other files
unfoldable pub file_rules : List Rule
file_rules =
    rule.File file.Kind
    ∷ rule.File file.Syntax
    ∷ rule.File file.Duplicate
    ∷ rule.File file.Depth
    ∷ rule.File file.Number
    ∷ rule.File file.Size
    ∷ rule.File file.Utf8
    ∷ rule.File file.ExpectJson
    ∷ rule.File file.ExpectShape
    ∷ rule.File file.NoCase
    ∷ rule.File file.StepLine
    ∷ rule.File file.ScriptLine
    ∷ []

abbrev pub message : List ℕ → Data
message t = object ((codes "text", text t) ∷ [])

abbrev pub level : Rule → Data
level r = text (word_of (severity_of r))

abbrev pub configuration : Rule → Data
configuration r = object ((codes "level", level r) ∷ [])

abbrev pub rule_object : Rule → Data
rule_object r =
    object
    ((codes "id", text (rule_name r))
    ∷ (codes "shortDescription", message (sentence r))
    ∷ (codes "defaultConfiguration", configuration r)
    ∷ [])

-- where there are such
abbrev pub more_rules : Bool → List Rule
more_rules true = file_rules
more_rules false = []

abbrev pub rules_told : Bool → List Data
rules_told has_others = map rule_object rules ++ map rule_object (more_rules has_others)

-- ---- results (SARIF, section 3.27)

-- whether a byte stands for itself in a URI (RFC 3986, section 2.3, and the slash)
unfoldable pub is_unreserved : ℕ → Bool
is_unreserved c =
    is_ascii_alphanumeric c
    || ((c == 45) || ((c == 46) || ((c == 95) || ((c == 126) || (c == 47)))))

-- the upper-case hexadecimal digit of this value
abbrev pub upper_digit : ℕ → ℕ
upper_digit n = if nat_lt n 10 then 48 + n else 55 + n

-- any other is written by its number (RFC 3986, section 2.1)
unfoldable pub uri_byte : ℕ → List ℕ
uri_byte c =
    if is_unreserved c then encode_utf8 c
    else 37 ∷ upper_digit (c / 16) ∷ upper_digit (c % 16) ∷ []

-- the name of a file as a reference to a URI
abbrev pub uri : List ℕ → List ℕ
uri file = flat_map uri_byte file

abbrev pub region : Finding → Data
region f =
    object
    ((codes "startLine", counting (line_of f)) ∷ (codes "startColumn", counting (column_of f)) ∷ [])

-- the file of this URI
abbrev pub artifact : List ℕ → Data
artifact u = object ((codes "uri", text u) ∷ [])

abbrev pub stretch : List ℕ → Finding → Data
stretch u f = object ((codes "artifactLocation", artifact u) ∷ (codes "region", region f) ∷ [])

abbrev pub location : List ℕ → Finding → Data
location u f = object ((codes "physicalLocation", stretch u f) ∷ [])

abbrev pub locations : List ℕ → Finding → Data
locations u f = list (chain (location u f ∷ []))

abbrev pub result_object : List ℕ → Finding → Data
result_object u f =
    object
    ((codes "ruleId", text (rule_name f.rule))
    ∷ (codes "level", level f.rule)
    ∷ (codes "message", message (string_bytes f.message))
    ∷ (codes "locations", locations u f)
    ∷ [])

-- those of each file, in order
abbrev pub file_results : FileReport → List Data
file_results r = map (result_object (uri r.name.now)) r.findings.items

abbrev pub results : List FileReport → List Data
results rs = flat_map file_results rs

-- ---- the log (SARIF, sections 3.13, 3.14, 3.18 and 3.19)

-- whether there are other files than definitions and mock files decides which rules are told
abbrev pub driver : Bool → Data
driver has_others =
    object
    ((codes "name", text (codes "asl"))
    ∷ (codes "version", text (codes "0.1.0"))
    ∷ (codes "rules", list (chain (rules_told has_others)))
    ∷ [])

abbrev pub tool : Bool → Data
tool has_others = object ((codes "driver", driver has_others) ∷ [])

-- columns count characters
abbrev pub run : Bool → List Data → Data
run has_others results =
    object
    ((codes "tool", tool has_others)
    ∷ (codes "columnKind", text (codes "unicodeCodePoints"))
    ∷ (codes "results", list (chain results))
    ∷ [])

abbrev pub runs : Bool → List Data → Data
runs has_others results = list (chain (run has_others results ∷ []))

abbrev pub log : Bool → List Data → Data
log has_others results =
    object
    ((codes "$schema", text (codes "https://json.schemastore.org/sarif-2.1.0.json"))
    ∷ (codes "version", text (codes "2.1.0"))
    ∷ (codes "runs", runs has_others results)
    ∷ [])

-- on one line
abbrev pub sarif_text : Bool → List FileReport → List ℕ
sarif_text has_others rs = compact (log has_others (results rs)) ++ 10 ∷ []
