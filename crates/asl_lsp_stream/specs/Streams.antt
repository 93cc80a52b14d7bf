-- What a language server sends for a stream of bytes.
use Rattle.std.specs.Prelude.{ℕ, List, [], ◌∷◌, ◌++◌, ◌≡◌, Option, Some, None, codes}
use Rattle.asl_base_protocol.specs.Message.{message}
use Rattle.asl_base_protocol.specs.Standing.{IsAfter}
use Rattle.asl_base_protocol.specs.declared.item.Item.{Item}
use Rattle.asl_base_protocol.specs.declared.item.Item.TheVariants.{Content, BadHeader, TooLong}
use Rattle.asl_json_rpc.specs.Printing.{error_text}
use Rattle.asl_json_rpc.specs.declared.code.ErrorCode.TheVariants.{ParseError}
use Rattle.asl_json_rpc.specs.declared.id.Id.TheVariants.{Null}
use Rattle.asl_lsp.specs.Server.{IsReceived}
use Rattle.asl_lsp.specs.declared.phase.Phase.{Phase}
use Rattle.asl_lsp.specs.declared.phase.Phase.TheVariants.{Uninitialized}
use Rattle.asl_lsp_stream.specs.declared.service.Service.{Service}

-- ---- for one item

-- a message with its header, where there is one
abbrev pub framed : Option (List ℕ) → List ℕ
framed None = []
framed (Some t) = message t

abbrev pub error_message : List ℕ → List ℕ
error_message words = message (error_text Null ParseError words)

-- a server at p meets an item, is at q then, and this is sent
abbrev pub ItemTells : Phase → Item → Phase → List ℕ → Type 0
ItemTells p (Content b) q t = (o : Option (List ℕ)) × IsReceived p b q o × (t ≡ framed o)
ItemTells p BadHeader q t = (q ≡ p) × (t ≡ error_message (codes "The header has no Content-Length."))
ItemTells p (TooLong n) q t = (q ≡ p) × (t ≡ error_message (codes "The message is too long."))

-- such bytes were put behind these
abbrev pub Tells : (List ℕ → Type 0) → List ℕ → List ℕ → Type 0
Tells P old new = (t : List ℕ) × P t × (new ≡ old ++ t)

-- ---- for all that stands in a stream

abbrev pub Told : Phase → List Item → Phase → List ℕ → Type 0
Told p [] q t = (q ≡ p) × (t ≡ [])
Told p (i ∷ is) q t =
    (mid : Phase) × (one : List ℕ) × (rest : List ℕ) × ItemTells p i mid one × Told mid is q rest × (t ≡ one ++ rest)

-- the server has been given this input, and has sent this
pub record IsServing (input sent : List ℕ) (s : Service) : Type 0 where
  pub items : List Item
  pub after : IsAfter input items s.reader
  pub told : Told Uninitialized items s.server sent
