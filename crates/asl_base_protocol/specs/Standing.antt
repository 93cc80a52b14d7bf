-- What a reader has made of the bytes that it was given.
use Rattle.std.specs.Prelude.{◌≡◌, ℕ, ◌+◌, ◌<◌, ◌≤◌, false, List, [], ◌∷◌, ◌++◌, length}
use Rattle.asl_base_protocol.specs.declared.item.Item.{Item}
use Rattle.asl_base_protocol.specs.declared.said.Said.{Said}
use Rattle.asl_base_protocol.specs.declared.said.Said.TheVariants.{Length}
use Rattle.asl_base_protocol.specs.declared.part.Header.{Header}
use Rattle.asl_base_protocol.specs.declared.part.Filling.{Filling}
use Rattle.asl_base_protocol.specs.declared.part.Passing.{Passing}
use Rattle.asl_base_protocol.specs.declared.part.Part.{Part}
use Rattle.asl_base_protocol.specs.declared.part.Part.TheVariants as parts
use Rattle.asl_base_protocol.specs.declared.part.Turn.{Turn}
use Rattle.asl_base_protocol.specs.declared.part.Turn.TheVariants as turns
use Rattle.asl_base_protocol.specs.declared.reader.Reader.{Reader}
use Rattle.asl_base_protocol.specs.Fields.{said}
use Rattle.asl_base_protocol.specs.Grammar.{longest_header, longest_content, has_crlf, AreLines, lines_text, IsHeaded, IsText, Reads}

-- a header part as far as it has come
pub record Grows (t : List ℕ) (h : Header) : Type 0 where
  pub lines : List (List ℕ)
  pub parts : t ≡ lines_text lines ++ h.line.items
  pub lines_are : AreLines lines
  pub line_is : has_crlf false h.line.items ≡ false
  pub said_is : h.said ≡ said lines
  pub len_is : h.len ≡ length t

-- ... which may go on
abbrev pub IsHeader : List ℕ → Header → Type 0
IsHeader t h = Grows t h × (length t < longest_header)

-- a content part as far as it has come, by what its header part says
abbrev pub IsFilling : Filling → Said → List ℕ → Type 0
IsFilling f s t =
    (s ≡ Length (length t + f.left)) × (length t + f.left ≤ longest_content) × (t ≡ f.bytes.items)

abbrev pub IsPassing : Passing → Said → List ℕ → Type 0
IsPassing p s t =
    (s ≡ Length p.length) × (longest_content < p.length) × (length t + p.left ≡ p.length)

-- these bytes are what has come
abbrev pub Stands : List ℕ → Part → Type 0
Stands t (parts.Header h) = IsHeader t h
Stands t (parts.Content f) = IsHeaded (IsFilling f) t
Stands t (parts.Passed p) = IsHeaded (IsPassing p) t

-- what these bytes lead to
abbrev pub TurnIs : List ℕ → Turn → Type 0
TurnIs t (turns.Item i) = IsText i t
TurnIs t (turns.Part p) = Stands t p

abbrev pub wanted : Part → ℕ
wanted (parts.Header h) = 1
wanted (parts.Content f) = f.left
wanted (parts.Passed p) = p.left

-- what bytes lead to is put behind these items, and this has come of the next
abbrev pub Puts : List ℕ → Turn → List Item → List Item → Part → Type 0
Puts t (turns.Item i) old new p = (new ≡ old ++ i ∷ []) × Stands [] p
Puts t (turns.Part q) old new p = (new ≡ old) × Stands t p

-- the others are in front
abbrev pub Begins : List Item → List Item → Type 0
Begins old new = (more : List Item) × (new ≡ old ++ more)

-- more bytes come behind those that the part stands for: these items are whole then, and this is left
pub record Goes (rest bytes : List ℕ) (old new : List Item) (p : Part) : Type 0 where
  pub more : List Item
  pub items_are : new ≡ old ++ more
  pub left : List ℕ
  pub reads : Reads more left (rest ++ bytes)
  pub stands : Stands left p

-- the reader was given this input, and these are its items
pub record IsAfter (input : List ℕ) (items : List Item) (r : Reader) : Type 0 where
  pub rest : List ℕ
  pub reads : Reads items rest input
  pub stands : Stands rest r.part

-- the same reader behind more bytes, and the items that have become whole
pub record GoesOn (input bytes : List ℕ) (items old new : List Item) (r : Reader) : Type 0 where
  pub more : List Item
  pub items_are : new ≡ old ++ more
  pub after : IsAfter (input ++ bytes) (items ++ more) r
