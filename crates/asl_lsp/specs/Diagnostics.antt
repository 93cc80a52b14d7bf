-- What is told of what is found in a document (Language Server Protocol 3.17, "Diagnostic" and "PublishDiagnosticsParams").
use Rattle.std.specs.Prelude.{ℕ, List, [], ◌∷◌, map, codes, string_bytes}
use Rattle.asl_json_data.specs.Data.{Data, number, text, list, chain}
use Rattle.asl_lint.specs.declared.finding.Finding.{Finding}
use Rattle.asl_lint.specs.declared.rule.Severity.{Severity}
use Rattle.asl_lint.specs.declared.rule.Severity.TheVariants as severity
use Rattle.asl_lint.specs.Rules.{severity_of, rule_name}
use Rattle.asl_lsp_positions.specs.declared.position.Encoding.{Encoding}
use Rattle.asl_lsp_features.specs.Structures.{object, counting, range}
use Rattle.asl_lsp.specs.declared.document.Document.{Document}

-- ---- diagnostics

-- ("DiagnosticSeverity")
abbrev pub severity_number : Severity → ℕ
severity_number severity.Error = 1
severity_number severity.Warning = 2

-- a finding in this text
abbrev pub diagnostic : Encoding → List ℕ → Finding → Data
diagnostic e t f =
    object
    ((codes "range", range e t f.span)
    ∷ (codes "severity", counting (severity_number (severity_of f.rule)))
    ∷ (codes "code", text (rule_name f.rule))
    ∷ (codes "source", text (codes "asl"))
    ∷ (codes "message", text (string_bytes f.message))
    ∷ [])

abbrev pub diagnostics : Encoding → List ℕ → List Finding → Data
diagnostics e t fs = list (chain (map (diagnostic e t) fs))

-- ---- what is published

-- these findings in a document
abbrev pub published : Encoding → Document → List Finding → Data
published e d fs =
    object
    ((codes "uri", text d.uri)
    ∷ (codes "version", number d.version)
    ∷ (codes "diagnostics", diagnostics e d.text fs)
    ∷ [])

-- nothing, of a document that isn't open any more
abbrev pub cleared : List ℕ → Data
cleared u = object ((codes "uri", text u) ∷ (codes "diagnostics", list (chain [])) ∷ [])
