-- Names in graphs: as labels, and as identifiers.
use Rattle.std.specs.Prelude.{ℕ, Bool, true, false, not, List, [], ◌∷◌, ◌++◌, ◌&&◌, ◌||◌, ◌==◌, length, take, nat_le, nat_lt, if◌then◌else◌, codes}
use Rattle.std.specs.List.{flat_map}
use Rattle.std.specs.Str.{chars}
use Rattle.std.specs.Char.{encode_utf8, is_ascii_alphanumeric}
use Rattle.std.specs.Fmt.{decimal}
use Rattle.asl_text.specs.Shown.{is_within, is_hidden}
use Rattle.asl_graph.specs.declared.language.Language.{Language}
use Rattle.asl_graph.specs.declared.language.Language.TheVariants.{Mermaid, Dot}

-- ---- labels

-- what no text of XML has, as which graphs are drawn, and controls beside
abbrev pub is_refused : ℕ → Bool
is_refused c = nat_lt c 32 || (is_within 127 159 c || is_within 0xFFFE 0xFFFF c)

-- ASCII letters and digits, what is beyond ASCII and shows, the space, the full stop, the hyphen and
-- the underscore
abbrev pub is_kept : ℕ → Bool
is_kept c =
    is_ascii_alphanumeric c
    || ((nat_le 128 c && (not (is_hidden c) && not (is_refused c))) || ((c == 32) || ((c == 46) || ((c == 45) || (c == 95)))))

abbrev pub entity_lead : Language → List ℕ
entity_lead Mermaid = codes "#"
entity_lead Dot = codes "&#"

-- a character by its number, as both languages take it in a label
abbrev pub numbered : Language → ℕ → List ℕ
numbered l c = entity_lead l ++ (decimal c ++ 59 ∷ [])

-- the same, but for a backslash in DOT: what stands behind one there is an escape, so it is written
-- twice (Graphviz, "escString")
abbrev pub entity : Language → ℕ → List ℕ
entity Mermaid c = numbered Mermaid c
entity Dot c = if c == 92 then numbered Dot c ++ numbered Dot c else numbered Dot c

-- a space behind a full stop or a hyphen, which together are a list's item in Markdown, as Mermaid
-- reads labels
abbrev pub marks_item : Language → ℕ → ℕ → Bool
marks_item Mermaid before c = (c == 32) && ((before == 46) || (before == 45))
marks_item Dot before c = false

-- a control is shown as U+FFFD, the replacement character; what doesn't show otherwise, by its number
abbrev pub shown_char : Language → ℕ → ℕ → List ℕ
shown_char l before c =
    if marks_item l before c then entity l c
    else if is_kept c then encode_utf8 c
    else if is_refused c then encode_utf8 65533
    else entity l c

-- characters behind this one
abbrev pub shown_behind : Language → ℕ → List ℕ → List ℕ
shown_behind l before [] = []
shown_behind l before (c ∷ cs) = shown_char l before c ++ shown_behind l c cs

abbrev pub shown : Language → List ℕ → List ℕ
shown l t = shown_behind l 0 (chars t)

-- of a text of more characters than 60, these, and a mark that there are others
abbrev pub most : ℕ
most = 60

abbrev pub more_mark : Bool → List ℕ
more_mark true = codes "..."
more_mark false = []

abbrev pub shown_short : Language → List ℕ → List ℕ
shown_short l t = shown_behind l 0 (take most (chars t)) ++ more_mark (nat_lt most (length (chars t)))

-- ---- identifiers

-- ASCII letters and digits stay; any other character is its number between underscores. So two
-- names have two words
abbrev pub word_char : ℕ → List ℕ
word_char c = if is_ascii_alphanumeric c then encode_utf8 c else 95 ∷ (decimal c ++ 95 ∷ [])

abbrev pub word : List ℕ → List ℕ
word t = flat_map word_char (chars t)

abbrev pub state_id : List ℕ → List ℕ
state_id n = codes "s_" ++ word n

-- of the machine with this number inside the state of this name
abbrev pub box_key : List ℕ → ℕ → List ℕ
box_key n i = decimal i ++ 95 ∷ word n
