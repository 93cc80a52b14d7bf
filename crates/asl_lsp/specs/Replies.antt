-- What is sent.
use Rattle.std.specs.Prelude.{ℕ, List, [], ◌≡◌, Option, Some, None, Ok, Err, codes}
use Rattle.asl_json_data.specs.Data.{Data}
use Rattle.asl_json_rpc.specs.declared.id.Id.{Id}
use Rattle.asl_json_rpc.specs.Printing.{result_text, error_text, notification_text}
use Rattle.asl_lint.specs.declared.finding.Finding.{Finding}
use Rattle.asl_lint.specs.Linted.{AreLinted}
use Rattle.asl_lsp_positions.specs.declared.position.Encoding.{Encoding}
use Rattle.asl_lsp_positions.specs.declared.position.Position.{Position}
use Rattle.asl_lsp_features.specs.declared.spot.Sought.{Sought}
use Rattle.asl_lsp_features.specs.Locating.{IsLocated}
use Rattle.asl_lsp_features.specs.Renaming.{Outcome, IsPrepared, IsRenamed}
use Rattle.asl_lsp.specs.declared.document.Document.{Document}
use Rattle.asl_lsp.specs.declared.refusal.Refusal.{Refusal}
use Rattle.asl_lsp.specs.Diagnostics.{published}
use Rattle.asl_lsp.specs.Diagnostics as diagnostics
use Rattle.asl_lsp.specs.Refusals.{code_of, words_of, refusal_of}

pub data Reply : Type 0 where
  -- to a request: its result, or why it is refused
  result : Id → Data → Reply
  refused : Id → Refusal → Reply
  -- where the names of the state stand whose name is at a position of a document; what that name is; and the document with
  -- another one
  located : Id → Encoding → Document → Sought → Position → Reply
  prepared : Id → Encoding → Document → Position → Reply
  renamed : Id → Encoding → Document → List ℕ → Position → Reply
  -- what is found in a document, and that nothing is told of the one with this URI any more
  diagnosed : Encoding → Document → Reply
  cleared : List ℕ → Reply

-- ---- as texts

abbrev pub refusal_text : Id → Refusal → List ℕ
refusal_text i r = error_text i (code_of r) (words_of r)

-- with these parameters
abbrev pub published_text : Data → List ℕ
published_text ps = notification_text (codes "textDocument/publishDiagnostics") ps

-- each fault and each warning that `lint` has of the document's text, at its range, and nothing else
pub record AreDiagnosed (e : Encoding) (d : Document) (t : List ℕ) : Type 0 where
  pub findings : List Finding
  pub linted : AreLinted None None d.text findings []
  pub is : t ≡ published_text (published e d findings)

-- a name's places, as `located` has them
pub record AreLocated (i : Id) (e : Encoding) (d : Document) (w : Sought) (p : Position) (t : List ℕ) : Type 0 where
  pub value : Data
  pub located : IsLocated e d.uri d.text w p value
  pub is : t ≡ result_text i value

-- a name that can be changed, as `prepared` has it
pub record IsPreparedFor (i : Id) (e : Encoding) (d : Document) (p : Position) (t : List ℕ) : Type 0 where
  pub value : Data
  pub prepared : IsPrepared e d.text p value
  pub is : t ≡ result_text i value

abbrev pub outcome_text : Id → Outcome → List ℕ
outcome_text i (Ok d) = result_text i d
outcome_text i (Err f) = refusal_text i (refusal_of f)

-- a document with another name of a state, as `renamed` has it
pub record IsRenamedFor (i : Id) (e : Encoding) (d : Document) (n : List ℕ) (p : Position) (t : List ℕ) : Type 0 where
  pub outcome : Outcome
  pub renamed : IsRenamed e d.uri d.text n p outcome
  pub is : t ≡ outcome_text i outcome

abbrev pub IsReply : Reply → List ℕ → Type 0
IsReply (result i d) t = t ≡ result_text i d
IsReply (refused i r) t = t ≡ refusal_text i r
IsReply (located i e d w p) t = AreLocated i e d w p t
IsReply (prepared i e d p) t = IsPreparedFor i e d p t
IsReply (renamed i e d n p) t = IsRenamedFor i e d n p t
IsReply (diagnosed e d) t = AreDiagnosed e d t
IsReply (cleared u) t = t ≡ published_text (diagnostics.cleared u)

-- where there is one
abbrev pub IsSent : Option Reply → Option (List ℕ) → Type 0
IsSent None t = t ≡ None
IsSent (Some r) None = ⊥
IsSent (Some r) (Some t) = IsReply r t
