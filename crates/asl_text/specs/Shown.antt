-- Texts of which every character shows.
use Rattle.std.specs.Prelude.{ℕ, Bool, List, [], ◌∷◌, ◌||◌, ◌&&◌, ◌==◌, ◌/◌, ◌%◌, nat_le, if◌then◌else◌}
use Rattle.std.specs.List.{flat_map}
use Rattle.std.specs.Str.{chars}
use Rattle.std.specs.Char.{encode_utf8, digit_char, is_control}
use Rattle.std.specs.Char.Escape.{encode_utf16}
use Rattle.ucd_derived.specs.Binary.{is_default_ignorable_code_point}

abbrev pub is_within : ℕ → ℕ → ℕ → Bool
is_within low high c = nat_le low c && nat_le c high

-- controls; what shows as nothing, as marks that change the direction of what follows them (Unicode,
-- "Default_Ignorable_Code_Point"); what breaks a line or a paragraph (U+2028, U+2029); and
-- annotations between lines (U+FFF9 to U+FFFB)
abbrev pub is_hidden : ℕ → Bool
is_hidden c =
    is_control c
    || (is_default_ignorable_code_point c
    || (is_within 0x2028 0x2029 c || is_within 0xFFF9 0xFFFB c))

-- as in a JSON text: a backslash, `u` and four digits for each unit of UTF-16
abbrev pub unit_escape : ℕ → List ℕ
unit_escape u =
    92 ∷ 117 ∷ digit_char (u / 4096) ∷ digit_char (u / 256 % 16) ∷ digit_char (u / 16 % 16)
    ∷ digit_char (u % 16) ∷ []

abbrev pub escape : ℕ → List ℕ
escape c = flat_map unit_escape (encode_utf16 c)

abbrev pub shown_char : ℕ → List ℕ
shown_char c = if is_hidden c then escape c else encode_utf8 c

abbrev pub shown : List ℕ → List ℕ
shown t = flat_map shown_char (chars t)
