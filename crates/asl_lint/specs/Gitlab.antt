-- The format `gitlab`: a list of issues (GitLab Docs, "Code Quality report format").
use Rattle.std.specs.Prelude.{ℕ, List, [], ◌∷◌, ◌++◌, codes, count_by, map, string_bytes}
use Rattle.std.specs.Fmt.{decimal}
use Rattle.std.specs.List.{flat_map}
use Rattle.std.specs.Str.{bytes_eq}
use Rattle.hex.specs.Hex.{encode_lower}
use Rattle.sha1.specs.Sha1.{sha1}
use Rattle.asl_json_data.specs.Data.{Data, text, list, chain}
use Rattle.asl_json_data.specs.Compact.{compact}
use Rattle.asl_lint.specs.declared.finding.Finding.{Finding}
use Rattle.asl_lint.specs.declared.report.FileReport.{FileReport}
use Rattle.asl_lint.specs.declared.rule.Rule.{Rule}
use Rattle.asl_lint.specs.declared.rule.Severity.{Severity}
use Rattle.asl_lint.specs.declared.rule.Severity.TheVariants as severity
use Rattle.asl_lint.specs.JsonLines.{object, counting}
use Rattle.asl_lint.specs.Lines.{line_of}
use Rattle.asl_lint.specs.Rules.{severity_of, rule_name}

-- ---- fingerprints

-- the name of a file, and a finding in it
abbrev pub Placed : Type 0
Placed = List ℕ × Finding

-- what a finding keeps where lines move: its rule, its file and its message, a line each
unfoldable pub identity : Placed → List ℕ
identity p = rule_name p.1.rule ++ 10 ∷ (p.0 ++ 10 ∷ string_bytes p.1.message)

-- so many of these are this one
abbrev pub alike : List ℕ → List (List ℕ) → ℕ
alike t ts = count_by (λ u. bytes_eq u t) ts

-- SHA-1, in hexadecimal, of how many are the same before it and of what it keeps
unfoldable pub fingerprint : ℕ → List ℕ → List ℕ
fingerprint n kept = encode_lower (sha1 (decimal n ++ 10 ∷ kept))

-- ---- issues

pub record Issue : Type 0 where
  pub file : List ℕ
  pub finding : Finding
  pub fingerprint : List ℕ

-- behind findings that keep these
abbrev pub issue_behind : List (List ℕ) → Placed → Issue
issue_behind before p = record {
  file = p.0;
  finding = p.1;
  fingerprint = fingerprint (alike (identity p) before) (identity p);
}

abbrev pub issues_behind : List (List ℕ) → List Placed → List Issue
issues_behind before [] = []
issues_behind before (p ∷ ps) = issue_behind before p ∷ issues_behind (before ++ identity p ∷ []) ps

abbrev pub file_findings : FileReport → List Placed
file_findings r = map (λ f. (r.name.now, f)) r.findings.items

-- those of each file, in order
abbrev pub all_findings : List FileReport → List Placed
all_findings rs = flat_map file_findings rs

abbrev pub issues : List FileReport → List Issue
issues rs = issues_behind [] (all_findings rs)

-- ---- the report

unfoldable pub grade : Severity → List ℕ
grade severity.Error = codes "major"
grade severity.Warning = codes "minor"

abbrev pub lines : Finding → Data
lines f = object ((codes "begin", counting (line_of f)) ∷ [])

abbrev pub place : List ℕ → Finding → Data
place file f = object ((codes "path", text file) ∷ (codes "lines", lines f) ∷ [])

abbrev pub issue_object : Issue → Data
issue_object i =
    object
    ((codes "description", text (string_bytes i.finding.message))
    ∷ (codes "check_name", text (rule_name i.finding.rule))
    ∷ (codes "fingerprint", text i.fingerprint)
    ∷ (codes "severity", text (grade (severity_of i.finding.rule)))
    ∷ (codes "location", place i.file i.finding)
    ∷ [])

-- on one line
abbrev pub gitlab_text : List FileReport → List ℕ
gitlab_text rs = compact (list (chain (map issue_object (issues rs)))) ++ 10 ∷ []
