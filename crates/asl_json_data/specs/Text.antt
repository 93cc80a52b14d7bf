-- How texts are spelled between their quotes (RFC 8259, section 7). A surrogate half is spelled as
-- one of a pair alone.
use Rattle.std.specs.Prelude.{◌≡◌, ℕ, ◌+◌, ◌*◌, Bool, true, false, ◌||◌, ◌&&◌, not, ◌==◌, nat_le, List, [], ◌∷◌, ◌++◌, cond, encode_utf8}
use Rattle.std.specs.Char.{is_digit as is_digit_of, digit_value}
use Rattle.std.specs.Char.Utf16.{is_high_surrogate, is_low_surrogate, surrogate_pair_char}

abbrev pub quote : ℕ
quote = 34

abbrev pub backslash : ℕ
backslash = 92

-- the letter of an escape by four hexadecimal digits
abbrev pub letter_u : ℕ
letter_u = 117

-- what may stand within a text as it is
unfoldable pub is_plain : ℕ → Bool
is_plain c = nat_le 32 c && not (c == 34) && not (c == 92)

abbrev pub ArePlain : List ℕ → Type 0
ArePlain [] = Unit {0}
ArePlain (c ∷ cs) = (is_plain c ≡ true) × ArePlain cs

-- what may stand behind a backslash for one byte: " \ / b f n r t
unfoldable pub is_letter : ℕ → Bool
is_letter c =
    (c == 34) || (c == 92) || (c == 47) || (c == 98) || (c == 102) || (c == 110) || (c == 114)
    || (c == 116)

-- the byte that it stands for
unfoldable pub letter_value : ℕ → ℕ
letter_value c =
    cond (c == 98) 8
    (cond (c == 102) 12 (cond (c == 110) 10 (cond (c == 114) 13 (cond (c == 116) 9 c))))

unfoldable pub is_hex : ℕ → Bool
is_hex c = is_digit_of c 16

-- four hexadecimal digits
pub data Quad : Type 0 where
  quad : ℕ → ℕ → ℕ → ℕ → Quad

abbrev pub digits_of : Quad → List ℕ
digits_of (quad a b c d) = a ∷ b ∷ c ∷ d ∷ []

abbrev pub AreHex : Quad → Type 0
AreHex (quad a b c d) =
    (is_hex a ≡ true) × ((is_hex b ≡ true) × ((is_hex c ≡ true) × (is_hex d ≡ true)))

-- the code unit that they spell
unfoldable pub unit_of : Quad → ℕ
unit_of (quad a b c d) =
    ((digit_value a * 16 + digit_value b) * 16 + digit_value c) * 16 + digit_value d

-- each low half begins with these two digits, and nothing else does
unfoldable pub begins_low : ℕ → ℕ → Bool
begins_low a b = (digit_value a == 13) && nat_le 12 (digit_value b)

-- a part of a text: a byte as it is; a backslash and a letter; the digits of a character; the
-- digits of a pair's two halves
pub data Piece : Type 0 where
  plain : ℕ → Piece
  short : ℕ → Piece
  single : Quad → Piece
  pair : Quad → Quad → Piece

abbrev pub IsPiece : Piece → Type 0
IsPiece (plain c) = is_plain c ≡ true
IsPiece (short c) = is_letter c ≡ true
IsPiece (single q) =
    AreHex q × ((is_high_surrogate (unit_of q) ≡ false) × (is_low_surrogate (unit_of q) ≡ false))
IsPiece (pair q r) =
    (AreHex q × (is_high_surrogate (unit_of q) ≡ true))
    × (AreHex r × (is_low_surrogate (unit_of r) ≡ true))

-- an escape by four digits
abbrev pub escape : Quad → List ℕ
escape q = backslash ∷ letter_u ∷ digits_of q

abbrev pub spelled : Piece → List ℕ
spelled (plain c) = c ∷ []
spelled (short c) = backslash ∷ c ∷ []
spelled (single q) = escape q
spelled (pair q r) = escape q ++ escape r

-- in UTF-8
abbrev pub meant : Piece → List ℕ
meant (plain c) = c ∷ []
meant (short c) = letter_value c ∷ []
meant (single q) = encode_utf8 (unit_of q)
meant (pair q r) = encode_utf8 (surrogate_pair_char (unit_of q) (unit_of r))

abbrev pub ArePieces : List Piece → Type 0
ArePieces [] = Unit {0}
ArePieces (p ∷ ps) = IsPiece p × ArePieces ps

abbrev pub all_spelled : List Piece → List ℕ
all_spelled [] = []
all_spelled (p ∷ ps) = spelled p ++ all_spelled ps

abbrev pub all_meant : List Piece → List ℕ
all_meant [] = []
all_meant (p ∷ ps) = meant p ++ all_meant ps

-- t spells s between its quotes
pub record SpellsChars (s t : List ℕ) : Type 0 where
  pub pieces : List Piece
  pub pieces_are : ArePieces pieces
  pub spelled_is : t ≡ all_spelled pieces
  pub meant_is : s ≡ all_meant pieces

-- a text with its quotes
pub record SpellsText (s t : List ℕ) : Type 0 where
  pub inner : List ℕ
  pub parts : t ≡ quote ∷ (inner ++ quote ∷ [])
  pub inner_is : SpellsChars s inner

-- An escape of a half that has no partner, up to the byte that tells: a low half; or a high half,
-- and behind it a byte that
-- is no backslash; a backslash and a letter; another escape by digits, whose first or second digit
-- is none of a low half.
pub data Lone : Type 0 where
  low : ℕ → ℕ → Lone
  high : Quad → ℕ → Lone
  high_letter : Quad → ℕ → Lone
  high_first : Quad → ℕ → Lone
  high_second : Quad → ℕ → ℕ → Lone

abbrev pub IsHigh : Quad → Type 0
IsHigh q = AreHex q × (is_high_surrogate (unit_of q) ≡ true)

abbrev pub IsLone : Lone → Type 0
IsLone (low a b) = (is_hex a ≡ true) × ((is_hex b ≡ true) × (begins_low a b ≡ true))
IsLone (high q c) = IsHigh q × (((c == quote) || is_plain c) ≡ true)
IsLone (high_letter q c) = IsHigh q × (is_letter c ≡ true)
IsLone (high_first q a) = IsHigh q × ((is_hex a ≡ true) × ((digit_value a == 13) ≡ false))
IsLone (high_second q a b) =
    IsHigh q × ((is_hex a ≡ true)
    × ((is_hex b ≡ true) × (((digit_value a == 13) ≡ true) × (begins_low a b ≡ false))))

abbrev pub lone_spelled : Lone → List ℕ
lone_spelled (low a b) = backslash ∷ letter_u ∷ a ∷ b ∷ []
lone_spelled (high q c) = escape q ++ c ∷ []
lone_spelled (high_letter q c) = escape q ++ backslash ∷ c ∷ []
lone_spelled (high_first q a) = escape q ++ backslash ∷ letter_u ∷ a ∷ []
lone_spelled (high_second q a b) = escape q ++ backslash ∷ letter_u ∷ a ∷ b ∷ []
