-- A header part goes on.
use Rattle.std.proofs.Common.{◌≡◌, ℕ, ◌+◌, ◌≤◌, ◌<◌, ◌==◌, ◌&&◌, false, List, [], ◌∷◌, ◌++◌, length, refl, sym, ap, subst, ◌∙◌, append_assoc, length-append, arith}
use Rattle.std.proofs.lemmas.List.{append-nil}
use Rattle.asl_base_protocol.specs.declared.said.Said.{Said}
use Rattle.asl_base_protocol.specs.declared.part.Header.{Header}
use Rattle.asl_base_protocol.specs.Fields.{said_from, said_by}
use Rattle.asl_base_protocol.specs.Grammar.{longest_header, crlf, has_crlf, IsLine, AreLines, lines_text, header_text}
use Rattle.asl_base_protocol.specs.Standing.{Grows, IsHeader}
use Rattle.asl_base_protocol.specs.private.Ends.{cr_behind}
use Rattle.asl_base_protocol.proofs.Ends.{line_on, line_front}

pub lines_more : (ls : List (List ℕ)) (l : List ℕ) → lines_text (ls ++ l ∷ []) ≡ lines_text ls ++ (l ++ crlf)
lines_more [] l = ap (λ (x : List ℕ). l ++ x) (append-nil crlf)
lines_more (k ∷ ks) l =
    ap (λ (x : List ℕ). k ++ (crlf ++ x)) (lines_more ks l)
    ∙ sym (append_assoc k (crlf ++ lines_text ks) (l ++ crlf))

pub are_more : (ls : List (List ℕ)) (l : List ℕ) → AreLines ls → IsLine l → AreLines (ls ++ l ∷ [])
are_more [] l h g = (g, tt)
are_more (k ∷ ks) l h g = (h.0, are_more ks l h.1 g)

said_more : (s : Said) (ls : List (List ℕ)) (l : List ℕ) → said_from s (ls ++ l ∷ []) ≡ said_by (said_from s ls) l
said_more s [] l = refl
said_more s (k ∷ ks) l = said_more (said_by s k) ks l

one_longer : (t : List ℕ) (c : ℕ) → length (t ++ c ∷ []) ≡ length t + 1
one_longer t c = length-append t (c ∷ [])

-- by a byte that ends no line
pub inner_grows : (t : List ℕ) (h g : Header) (c : ℕ) → IsHeader t h → (cr_behind false h.line.items && (c == 10)) ≡ false → g.line.items ≡ h.line.items ++ c ∷ [] → g.len ≡ h.len + 1 → g.said ≡ h.said → Grows (t ++ c ∷ []) g
inner_grows t h g c (s, short) e line len same = record {
  lines = s.lines;
  parts = ap (λ (x : List ℕ). x ++ c ∷ []) s.parts ∙ append_assoc (lines_text s.lines) h.line.items (c ∷ []) ∙ ap (λ (x : List ℕ). lines_text s.lines ++ x) (sym line);
  lines_are = s.lines_are;
  line_is = ap (has_crlf false) line ∙ line_on h.line.items c s.line_is e;
  said_is = same ∙ s.said_is;
  len_is = len ∙ ap (λ (n : ℕ). n + 1) s.len_is ∙ sym (one_longer t c);
}

-- the bytes behind the line feed that ends a line
pub ended : (t : List ℕ) (ls : List (List ℕ)) (line front : List ℕ) → t ≡ lines_text ls ++ line → line ≡ front ++ 13 ∷ [] → t ++ 10 ∷ [] ≡ lines_text ls ++ (front ++ crlf)
ended t ls line front parts e =
    ap (λ (x : List ℕ). x ++ 10 ∷ []) (parts ∙ ap (λ (x : List ℕ). lines_text ls ++ x) e)
    ∙ append_assoc (lines_text ls) (front ++ 13 ∷ []) (10 ∷ [])
    ∙ ap (λ (x : List ℕ). lines_text ls ++ x) (append_assoc front (13 ∷ []) (10 ∷ []))

-- the header part has ended
pub header_ended : (t : List ℕ) (h : Header) (front : List ℕ) (s : Grows t h) → h.line.items ≡ front ++ 13 ∷ [] → front ≡ [] → t ++ 10 ∷ [] ≡ header_text s.lines
header_ended t h front s e none = ended t s.lines h.line.items front s.parts e ∙ ap (λ (x : List ℕ). lines_text s.lines ++ (x ++ crlf)) none

pub header_short : (t : List ℕ) (ls : List (List ℕ)) → t ++ 10 ∷ [] ≡ header_text ls → length t < longest_header → length (header_text ls) ≤ longest_header
header_short t ls e short = omega (arith, one_longer t 10, ap length e)

pub some_line : (front : List ℕ) → (front ≡ [] → ⊥) → has_crlf false front ≡ false → IsLine front
some_line [] some h = some refl
some_line (c ∷ cs) some h = h

-- by a line feed that ends a line
pub line_grows : (t : List ℕ) (h g : Header) (front : List ℕ) → IsHeader t h → h.line.items ≡ front ++ 13 ∷ [] → (front ≡ [] → ⊥) → g.line.items ≡ [] → g.len ≡ h.len + 1 → g.said ≡ said_by h.said front → Grows (t ++ 10 ∷ []) g
line_grows t h g front (s, short) e some line len same = record {
  lines = s.lines ++ front ∷ [];
  parts = ended t s.lines h.line.items front s.parts e ∙ sym (lines_more s.lines front) ∙ sym (ap (λ (x : List ℕ). lines_text (s.lines ++ front ∷ []) ++ x) line ∙ append-nil (lines_text (s.lines ++ front ∷ [])));
  lines_are = are_more s.lines front s.lines_are (some_line front some (line_front front 13 (subst (λ (x : List ℕ). has_crlf false x ≡ false) e s.line_is)));
  line_is = ap (has_crlf false) line;
  said_is = same ∙ ap (λ (x : Said). said_by x front) s.said_is ∙ sym (said_more _ s.lines front);
  len_is = len ∙ ap (λ (n : ℕ). n + 1) s.len_is ∙ sym (one_longer t 10);
}
