-- What stands in front of the rest of a text is gone over: spaces, texts, commas and brackets.
use Rattle.std.proofs.Common.{◌≡◌, ℕ, true, false, ◌==◌, ◌||◌, List, [], ◌∷◌, ◌++◌, drop, refl, sym, ap, subst, ◌∙◌, append_assoc, arith}
use Rattle.asl_json_data.specs.Data.{Data, null, boolean, number, text, list, dict}
use Rattle.asl_json_data.specs.Grammar.{is_space, AreSpaces, close_bracket, close_brace, Spells}
use Rattle.asl_json_data.specs.Number.{is_digit}
use Rattle.asl_json_data.specs.Parts.{comma, Joined, MoreParts}
use Rattle.asl_json_data.specs.Text.{quote, backslash, is_hex, Quad, quad, AreHex, Piece, plain, short, single, pair, IsPiece, escape, spelled, ArePieces, all_spelled, SpellsText}
use Rattle.asl_json_scan.specs.private.Leads.{begins}
use Rattle.asl_json_scan.proofs.Passing.{numeral_begins}
use Rattle.asl_json_scan.proofs.Texts.{plain_no_quote, plain_no_backslash}
use Rattle.asl_json_spans.specs.private.Marks.{behind_spaces, behind_quote, behind_text, behind_mark}

pub spaces_skipped : (ws rest : List ℕ) → AreSpaces ws → behind_spaces (ws ++ rest) ≡ behind_spaces rest
spaces_skipped [] rest h = refl
spaces_skipped (w ∷ ws) rest h = let e : is_space w ≡ true = h.0 in rw e (spaces_skipped ws rest h.1)

pub first_stays : (c : ℕ) (cs : List ℕ) → is_space c ≡ false → behind_spaces (c ∷ cs) ≡ c ∷ cs
first_stays c cs e = rw e refl

no_space : (c : ℕ) → ((c == 45) || is_digit c) ≡ true → is_space c ≡ false
unfolding is_digit is_space
no_space c e = grind (arith, e)

begun_stays : (s rest : List ℕ) → begins s ≡ true → behind_spaces (s ++ rest) ≡ s ++ rest
begun_stays [] rest e = absurd (cc)
begun_stays (c ∷ cs) rest e = first_stays c (cs ++ rest) (no_space c e)

-- no space stands before the first byte of a value
pub value_stays : (d : Data) (t rest : List ℕ) → Spells d t → behind_spaces (t ++ rest) ≡ t ++ rest
unfolding is_space
value_stays null t rest h = subst (λ (x : List ℕ). behind_spaces (x ++ rest) ≡ x ++ rest) (sym h) refl
value_stays (boolean true) t rest h = subst (λ (x : List ℕ). behind_spaces (x ++ rest) ≡ x ++ rest) (sym h) refl
value_stays (boolean false) t rest h = subst (λ (x : List ℕ). behind_spaces (x ++ rest) ≡ x ++ rest) (sym h) refl
value_stays (number s) t rest h = subst (λ (x : List ℕ). behind_spaces (x ++ rest) ≡ x ++ rest) (sym h.0) (begun_stays s rest (numeral_begins s h.1))
value_stays (text s) t rest h = subst (λ (x : List ℕ). behind_spaces (x ++ rest) ≡ x ++ rest) (sym h.parts) refl
value_stays (list ds) t rest h = subst (λ (x : List ℕ). behind_spaces (x ++ rest) ≡ x ++ rest) (sym h.parts) refl
value_stays (dict ms) t rest h = subst (λ (x : List ℕ). behind_spaces (x ++ rest) ≡ x ++ rest) (sym h.parts) refl

-- ---- texts

hex_no_quote : (c : ℕ) → is_hex c ≡ true → (c == quote) ≡ false
unfolding is_hex
hex_no_quote c e = grind (arith, e)

hex_no_backslash : (c : ℕ) → is_hex c ≡ true → (c == backslash) ≡ false
unfolding is_hex
hex_no_backslash c e = grind (arith, e)

inner_passes : (c : ℕ) (rest : List ℕ) → (c == quote) ≡ false → (c == backslash) ≡ false → behind_quote false (c ∷ rest) ≡ behind_quote false rest
inner_passes c rest q b = rw (q, b) refl

hex_passes : (c : ℕ) (rest : List ℕ) → is_hex c ≡ true → behind_quote false (c ∷ rest) ≡ behind_quote false rest
hex_passes c rest e = inner_passes c rest (hex_no_quote c e) (hex_no_backslash c e)

escape_passes : (q : Quad) (rest : List ℕ) → AreHex q → behind_quote false (escape q ++ rest) ≡ behind_quote false rest
escape_passes (quad a b c d) rest h =
    hex_passes a (b ∷ c ∷ d ∷ rest) h.0 ∙ hex_passes b (c ∷ d ∷ rest) h.1.0 ∙ hex_passes c (d ∷ rest) h.1.1.0 ∙ hex_passes d rest h.1.1.1

piece_passes : (p : Piece) (rest : List ℕ) → IsPiece p → behind_quote false (spelled p ++ rest) ≡ behind_quote false rest
piece_passes (plain c) rest h = inner_passes c rest (plain_no_quote c h) (plain_no_backslash c h)
piece_passes (short c) rest h = refl
piece_passes (single q) rest h = escape_passes q rest h.0
piece_passes (pair q r) rest h =
    ap (behind_quote false) (append_assoc (escape q) (escape r) rest) ∙ escape_passes q (escape r ++ rest) h.0.0 ∙ escape_passes r rest h.1.0

pieces_pass : (ps : List Piece) (rest : List ℕ) → ArePieces ps → behind_quote false (all_spelled ps ++ rest) ≡ behind_quote false rest
pieces_pass [] rest h = refl
pieces_pass (p ∷ ps) rest h =
    ap (behind_quote false) (append_assoc (spelled p) (all_spelled ps) rest) ∙ piece_passes p (all_spelled ps ++ rest) h.0 ∙ pieces_pass ps rest h.1

pub text_passes : (s t rest : List ℕ) → SpellsText s t → behind_text (t ++ rest) ≡ rest
text_passes s t rest h =
    let g = h.inner_is in
    let regrouped : t ++ rest ≡ quote ∷ (all_spelled g.pieces ++ quote ∷ rest) = rw (h.parts, g.spelled_is) (ap (λ (x : List ℕ). quote ∷ x) (append_assoc (all_spelled g.pieces) (quote ∷ []) rest)) in
    ap behind_text regrouped ∙ pieces_pass g.pieces (quote ∷ rest) g.pieces_are

-- ---- commas and brackets

-- what is left of a list or an object behind its bracket or a comma
abbrev pub Left : ℕ → List (List ℕ → Type 0) → List ℕ → Type 0
Left close [] t = t ≡ []
Left close (P ∷ Ps) t = Joined P (MoreParts close Ps) t

-- a comma or a bracket, and what is left behind it
pub record Marked (close : ℕ) (Ps : List (List ℕ → Type 0)) (t : List ℕ) : Type 1 where
  pub mark : ℕ
  pub tail : List ℕ
  pub parts : t ≡ mark ∷ tail
  pub mark_is : is_space mark ≡ false
  pub left : Left close Ps tail

pub bracket_no_space : is_space close_bracket ≡ false
unfolding is_space
bracket_no_space = refl

pub brace_no_space : is_space close_brace ≡ false
unfolding is_space
brace_no_space = refl

pub comma_no_space : is_space comma ≡ false
unfolding is_space
comma_no_space = refl

abbrev pub marked : (close : ℕ) (Ps : List (List ℕ → Type 0)) (t : List ℕ) → is_space close ≡ false → MoreParts close Ps t → Marked close Ps t
marked close [] t s h = record { mark = close; tail = []; parts = h; mark_is = s; left = refl }
marked close (P ∷ Ps) t s h = record { mark = comma; tail = h.tail; parts = h.parts; mark_is = comma_no_space; left = h.tail_is }

pub byte_behind : (ws : List ℕ) (c : ℕ) (rest : List ℕ) → AreSpaces ws → is_space c ≡ false → behind_mark (ws ++ c ∷ rest) ≡ rest
byte_behind ws c rest h e = ap (drop 1) (spaces_skipped ws (c ∷ rest) h ∙ first_stays c rest e)

pub mark_behind : (close : ℕ) (Ps : List (List ℕ → Type 0)) (ws t rest : List ℕ) → AreSpaces ws → (m : Marked close Ps t) → behind_mark (ws ++ (t ++ rest)) ≡ m.tail ++ rest
mark_behind close Ps ws t rest h m = ap (λ (x : List ℕ). behind_mark (ws ++ (x ++ rest))) m.parts ∙ byte_behind ws m.mark (m.tail ++ rest) h m.mark_is
