-- What is told of a definition, and of a mock file beside it.
use Rattle.std.specs.Prelude.{◌≡◌, ◌⊎◌, List, [], ◌∷◌, ◌++◌, ℕ, Option, Some, None, map}
use Rattle.asl_json_data.specs.Data.{Data}
use Rattle.asl_json_data.specs.Reads.{ReadsAs}
use Rattle.asl_json.specs.Access.{member_list}
use Rattle.asl_lint_messages.specs.States.{Stated, states_of}
use Rattle.asl_lint.specs.declared.rule.Rule.{Rule}
use Rattle.asl_lint.specs.declared.rule.Rule.TheVariants as rule
use Rattle.asl_lint.specs.declared.rule.MockRule.TheVariants as mock
use Rattle.asl_lint.specs.declared.finding.Finding.{Finding}
use Rattle.asl_lint.specs.Findings.{Noted, AreFound}
use Rattle.asl_lint.specs.Mocks.{keyed, mocks_told, unanswered}
use Rattle.asl_lint.specs.Places.{ArePlaced, ruled}

abbrev pub IsNoText : List ℕ → Type 0
IsNoText b = (d : Data) → ReadsAs b d → ⊥

-- the bytes are no JSON text, and this alone is told
pub record IsUnread (r : Rule) (b : List ℕ) (fs : List Finding) : Type 0 where
  pub none : IsNoText b
  pub only : map (λ (f : Finding). f.rule) fs ≡ r ∷ []

-- ---- of a mock file

-- the bytes are a text of a value; what is found in it, by itself and beside these states, is told,
-- each once and at its place, and nothing else
pub record AreMocksJudged (w : Option (List ℕ)) (ss : Option (List Stated)) (b : List ℕ)
    (fs : List Finding) : Type 0 where
  pub value : Data
  pub reads : ReadsAs b value
  pub all : List Noted
  pub found : map (keyed (member_list value)) all ≡ mocks_told w ss value
  pub placed : ArePlaced b value all (map ruled fs)

-- where there is one
abbrev pub AreMocksLinted : Option (List ℕ) → Option (List Stated) → Option (List ℕ)
    → List Finding → Type 0
AreMocksLinted w ss None fs = fs ≡ []
AreMocksLinted w ss (Some b) fs = IsUnread (rule.Mock mock.Json) b fs ⊎ AreMocksJudged w ss b fs

-- ---- of a definition

-- the Tasks of these states that a mock file doesn't answer, where there is one that can be read
abbrev pub AreUnanswered : Option (List ℕ) → List Stated → Option (List ℕ) → List Noted → Type 0
AreUnanswered w ss None ns = ns ≡ []
AreUnanswered w ss (Some b) ns =
    (IsNoText b × (ns ≡ [])) ⊎ ((d : Data) × ReadsAs b d × (ns ≡ unanswered w ss d))

-- what is found in this value, which the bytes are a text of, is told, each once and at its place;
-- besides, the Tasks without an answer, and nothing else
pub record IsJudged (w : Option (List ℕ)) (mocks : Option (List ℕ)) (b : List ℕ) (value : Data)
    (fs : List Finding) : Type 0 where
  pub own : List Noted
  pub found : AreFound value own
  pub more : List Noted
  pub beside : AreUnanswered w (states_of value) mocks more
  pub placed : ArePlaced b value (own ++ more) (map ruled fs)

-- ---- of both

-- the definition and the mock file that stands beside it
pub record AreJudged (w : Option (List ℕ)) (mocks : Option (List ℕ)) (b : List ℕ)
    (fs ms : List Finding) : Type 0 where
  pub value : Data
  pub reads : ReadsAs b value
  pub definition : IsJudged w mocks b value fs
  pub beside : AreMocksLinted w (Some (states_of value)) mocks ms

-- a definition that can't be read, and the mock file by itself
pub record AreApart (w : Option (List ℕ)) (mocks : Option (List ℕ)) (b : List ℕ)
    (fs ms : List Finding) : Type 0 where
  pub unread : IsUnread rule.Json b fs
  pub alone : AreMocksLinted w None mocks ms

-- these findings are told of a definition, and those of the mock file, of which the machine of this
-- name is meant, or the only one
abbrev pub AreLinted : Option (List ℕ) → Option (List ℕ) → List ℕ → List Finding → List Finding
    → Type 0
AreLinted w mocks b fs ms = AreApart w mocks b fs ms ⊎ AreJudged w mocks b fs ms
