-- What is sound is spelled by its compact text, which is in UTF-8.
use Rattle.std.proofs.Common.{◌≡◌, ℕ, ◌<◌, ◌/◌, ◌%◌, Bool, true, false, cond, nat_lt, ◌==◌, ◌||◌, List, [], ◌∷◌, ◌++◌, sym, subst, refl, arith}
use Rattle.std.specs.Prelude.{Option, Some, None}
use Rattle.std.proofs.lemmas.Str.{IsUtf8-append}
use Rattle.std.specs.Str.{IsUtf8}
use Rattle.std.specs.Char.{digit_char}
use Rattle.asl_json_data.specs.Data.{Data, null, boolean, number, text, list, dict, Chain, no_items, item, Pairs, no_members, member}
use Rattle.asl_json_data.specs.Grammar.{colon, open_bracket, close_bracket, open_brace, close_brace}
use Rattle.asl_json_data.specs.Parts.{comma}
use Rattle.asl_json_data.specs.Text.{quote, backslash, letter_u, is_plain}
use Rattle.asl_json_data.specs.Compact.{control_letter, escaped_control, escaped_byte, escaped, quoted, compact, compact_items, compact_more_items, compact_members, compact_more, IsSpellable, AreSpellableItems, AreSpellable}
use Rattle.asl_json_scan.proofs.Fronts.{not_plain_ascii}
use Rattle.asl_json_write.proofs.Quoting.{escaped_plain}
use Rattle.asl_json_data.proofs.Figures.{number_utf8}
use Rattle.asl_json.specs.Sound.{IsSound, AreSoundItems, AreSoundMembers}
use Rattle.asl_check.proofs.Cutting.{utf8_byte, utf8_cons, cut_before, cut_behind, one_more}

digit_small : (d : ℕ) → d < 16 → digit_char d < 128
digit_small d lt = grind (arith, lt)

letter_small : (c l : ℕ) → control_letter c ≡ Some l → l < 128
unfolding control_letter
letter_small c l e = grind (arith, e)

control_utf8 : (c : ℕ) (o : Option ℕ) → c < 32 → control_letter c ≡ o → IsUtf8 (escaped_control c o)
control_utf8 c (Some l) lt e = utf8_cons backslash _ (omega arith) (utf8_byte l (letter_small c l e))
control_utf8 c None lt e =
    utf8_cons backslash _ (omega arith) (utf8_cons letter_u _ (omega arith) (utf8_cons 48 _ (omega arith) (utf8_cons 48 _ (omega arith)
    (utf8_cons (digit_char (c / 16)) _ (digit_small (c / 16) (omega (arith, lt))) (utf8_byte (digit_char (c % 16)) (digit_small (c % 16) (omega arith)))))))

byte_utf8 : (c : ℕ) → c < 128 → IsUtf8 (escaped_byte c)
unfolding escaped_byte
byte_utf8 c lt = by ((c == quote) || (c == backslash)) (nat_lt c 32) refl
  where
    by : (x y : Bool) → nat_lt c 32 ≡ y → IsUtf8 (cond x (backslash ∷ c ∷ []) (cond y (escaped_control c (control_letter c)) (c ∷ [])))
    by true y e = utf8_cons backslash _ (omega arith) (utf8_byte c lt)
    by false true e = control_utf8 c (control_letter c) (grind (arith, e)) refl
    by false false e = utf8_byte c lt

escaped_utf8 : (u s : List ℕ) → IsUtf8 (u ++ s) → IsUtf8 (u ++ escaped s)
escaped_utf8 u [] h = h
escaped_utf8 u (c ∷ s) h = by (is_plain c) refl (λ v. escaped_utf8 v s)
  where
    by : (x : Bool) → is_plain c ≡ x → ((v : List ℕ) → IsUtf8 (v ++ s) → IsUtf8 (v ++ escaped s)) → IsUtf8 (u ++ (escaped_byte c ++ escaped s))
    by true e rest = subst (λ (t : List ℕ). IsUtf8 (u ++ (t ++ escaped s))) (sym (escaped_plain c e)) (subst IsUtf8 (one_more u c (escaped s)) (rest (u ++ c ∷ []) (subst IsUtf8 (sym (one_more u c s)) h)))
    by false e rest =
        let lt = not_plain_ascii c e in
        IsUtf8-append u (escaped_byte c ++ escaped s) (cut_before u c s lt h) (IsUtf8-append (escaped_byte c) (escaped s) (byte_utf8 c lt) (rest [] (cut_behind u c s lt h)))

quoted_utf8 : (s : List ℕ) → IsUtf8 s → IsUtf8 (quoted s)
quoted_utf8 s u = utf8_cons quote _ (omega arith) (IsUtf8-append (escaped s) (quote ∷ []) (escaped_utf8 [] s u) (utf8_byte quote (omega arith)))

member_utf8 : (k t : List ℕ) → IsUtf8 k → IsUtf8 t → IsUtf8 (quoted k ++ colon ∷ t)
member_utf8 k t u v = IsUtf8-append (quoted k) (colon ∷ t) (quoted_utf8 k u) (utf8_cons colon t (omega arith) v)

word_utf8 : (a b c d : ℕ) → a < 128 → b < 128 → c < 128 → d < 128 → IsUtf8 (a ∷ b ∷ c ∷ d ∷ [])
word_utf8 a b c d h i j k = utf8_cons a _ h (utf8_cons b _ i (utf8_cons c _ j (utf8_byte d k)))

mutual
  pub compact_utf8 : (d : Data) → IsSound d → IsUtf8 (compact d)
  compact_utf8 null h = word_utf8 110 117 108 108 (omega arith) (omega arith) (omega arith) (omega arith)
  compact_utf8 (boolean true) h = word_utf8 116 114 117 101 (omega arith) (omega arith) (omega arith) (omega arith)
  compact_utf8 (boolean false) h = utf8_cons 102 _ (omega arith) (word_utf8 97 108 115 101 (omega arith) (omega arith) (omega arith) (omega arith))
  compact_utf8 (number s) h = number_utf8 s h.0
  compact_utf8 (text s) h = quoted_utf8 s h
  compact_utf8 (list ds) h = utf8_cons open_bracket _ (omega arith) (items_utf8 ds h)
  compact_utf8 (dict ms) h = utf8_cons open_brace _ (omega arith) (members_utf8 ms h)

  items_utf8 : (ds : Chain) → AreSoundItems ds → IsUtf8 (compact_items ds)
  items_utf8 no_items h = utf8_byte close_bracket (omega arith)
  items_utf8 (item d ds) h = IsUtf8-append (compact d) (compact_more_items ds) (compact_utf8 d h.0) (more_items_utf8 ds h.1)

  more_items_utf8 : (ds : Chain) → AreSoundItems ds → IsUtf8 (compact_more_items ds)
  more_items_utf8 no_items h = utf8_byte close_bracket (omega arith)
  more_items_utf8 (item d ds) h = utf8_cons comma _ (omega arith) (IsUtf8-append (compact d) (compact_more_items ds) (compact_utf8 d h.0) (more_items_utf8 ds h.1))

  members_utf8 : (ms : Pairs) → AreSoundMembers ms → IsUtf8 (compact_members ms)
  members_utf8 no_members h = utf8_byte close_brace (omega arith)
  members_utf8 (member k d ms) h = IsUtf8-append (quoted k ++ colon ∷ compact d) (compact_more ms) (member_utf8 k (compact d) h.0 (compact_utf8 d h.1.0)) (more_utf8 ms h.1.1)

  more_utf8 : (ms : Pairs) → AreSoundMembers ms → IsUtf8 (compact_more ms)
  more_utf8 no_members h = utf8_byte close_brace (omega arith)
  more_utf8 (member k d ms) h = utf8_cons comma _ (omega arith) (IsUtf8-append (quoted k ++ colon ∷ compact d) (compact_more ms) (member_utf8 k (compact d) h.0 (compact_utf8 d h.1.0)) (more_utf8 ms h.1.1))

mutual
  pub sound_spellable : (d : Data) → IsSound d → IsSpellable d
  sound_spellable null h = tt
  sound_spellable (boolean b) h = tt
  sound_spellable (number s) h = h.0
  sound_spellable (text s) h = tt
  sound_spellable (list ds) h = items_spellable ds h
  sound_spellable (dict ms) h = members_spellable ms h

  items_spellable : (ds : Chain) → AreSoundItems ds → AreSpellableItems ds
  items_spellable no_items h = tt
  items_spellable (item d ds) h = (sound_spellable d h.0, items_spellable ds h.1)

  members_spellable : (ms : Pairs) → AreSoundMembers ms → AreSpellable ms
  members_spellable no_members h = tt
  members_spellable (member k d ms) h = (sound_spellable d h.1.0, members_spellable ms h.1.1)
