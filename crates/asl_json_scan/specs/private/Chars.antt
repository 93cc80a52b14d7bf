-- Reading between the quotes of a text, byte by byte.
use Rattle.std.specs.Prelude.{ℕ, suc, ◌+◌, cond, ◌||◌, ◌==◌, List, [], ◌∷◌, ◌++◌, length, encode_utf8}
use Rattle.std.specs.Char.{digit_value}
use Rattle.std.specs.Char.Utf16.{is_high_surrogate, surrogate_pair_char}
use Rattle.asl_json_data.specs.Text.{quote, backslash, letter_u, is_plain, is_letter, letter_value, is_hex, begins_low, Quad, quad, unit_of}
use Rattle.asl_json_scan.specs.declared.fault.Fault.{Fault}
use Rattle.asl_json_scan.specs.declared.fault.Kind.{Kind}
use Rattle.asl_json_scan.specs.declared.fault.Kind.TheVariants as kinds

pub data Within : Type 0 where
  -- between two characters
  bare : Within
  -- behind a backslash
  slash : Within
  -- behind a backslash and a `u`, with these digits
  unit_0 : Within
  unit_1 : ℕ → Within
  unit_2 : ℕ → ℕ → Within
  unit_3 : ℕ → ℕ → ℕ → Within
  -- behind an escape of a high half
  half : Quad → Within
  half_slash : Quad → Within
  low_0 : Quad → Within
  low_1 : Quad → ℕ → Within
  low_2 : Quad → ℕ → ℕ → Within
  low_3 : Quad → ℕ → ℕ → ℕ → Within

pub data Inside : Type 0 where
  -- with what the bytes so far mean
  goes : Within → List ℕ → Inside
  -- the closing quote
  ends : Inside
  -- nothing goes on over this byte
  breaks : Inside
  -- a half has no partner; its escape begins so many bytes before this one
  lone : ℕ → Inside

-- a digit is wanted
abbrev pub WantsHex : Within → Type 0
WantsHex bare = ⊥
WantsHex slash = ⊥
WantsHex (half q) = ⊥
WantsHex (half_slash q) = ⊥
WantsHex _ = Unit {0}

unfoldable pub on_unit : List ℕ → Quad → Inside
on_unit s q =
    cond (is_high_surrogate (unit_of q)) (goes (half q) s)
    (goes bare (s ++ encode_utf8 (unit_of q)))

-- One byte, behind bytes that mean s.
unfoldable pub in_text : Within → List ℕ → ℕ → Inside
in_text bare s c =
    cond (c == quote) ends
    (cond (c == backslash) (goes slash s) (cond (is_plain c) (goes bare (s ++ c ∷ [])) breaks))
in_text slash s c =
    cond (c == letter_u) (goes unit_0 s)
    (cond (is_letter c) (goes bare (s ++ letter_value c ∷ [])) breaks)
in_text unit_0 s a = cond (is_hex a) (goes (unit_1 a) s) breaks
in_text (unit_1 a) s b =
    cond (is_hex b) (cond (begins_low a b) (lone 3) (goes (unit_2 a b) s)) breaks
in_text (unit_2 a b) s c = cond (is_hex c) (goes (unit_3 a b c) s) breaks
in_text (unit_3 a b c) s d = cond (is_hex d) (on_unit s (quad a b c d)) breaks
in_text (half q) s c =
    cond (c == backslash) (goes (half_slash q) s)
    (cond ((c == quote) || is_plain c) (lone 6) breaks)
in_text (half_slash q) s c =
    cond (c == letter_u) (goes (low_0 q) s) (cond (is_letter c) (lone 7) breaks)
in_text (low_0 q) s a =
    cond (is_hex a) (cond (digit_value a == 13) (goes (low_1 q a) s) (lone 8)) breaks
in_text (low_1 q a) s b =
    cond (is_hex b) (cond (begins_low a b) (goes (low_2 q a b) s) (lone 9)) breaks
in_text (low_2 q a b) s c = cond (is_hex c) (goes (low_3 q a b c) s) breaks
in_text (low_3 q a b c) s d =
    cond (is_hex d)
    (goes bare (s ++ encode_utf8 (surrogate_pair_char (unit_of q) (unit_of (quad a b c d)))))
    breaks

-- What becomes of the bytes of a text: its closing quote with what it means and what follows, or a
-- fault.
pub data Textual : Type 0 where
  closed : List ℕ → List ℕ → Textual
  broken : Fault → Textual

abbrev pub told : Kind → ℕ → Textual
told kind left = broken (record { kind = kind; left = left })

abbrev pub text_onward : (Within → List ℕ → Textual) → List ℕ → List ℕ → Inside → Textual
text_onward f s cs (goes q t) = f q t
text_onward f s cs ends = closed s cs
text_onward f s cs breaks = told kinds.Syntax (suc (length cs))
text_onward f s cs (lone back) = told kinds.Lone (back + suc (length cs))

unfoldable pub text_run : Within → List ℕ → List ℕ → Textual
text_run q s [] = told kinds.Syntax 0
text_run q s (c ∷ cs) = text_onward (λ q' s'. text_run q' s' cs) s cs (in_text q s c)
