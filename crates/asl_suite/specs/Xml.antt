-- Texts of XML 1.0 (sections 2.2 and 2.4).
use Rattle.std.specs.Prelude.{ℕ, Bool, List, ◌++◌, ◌||◌, ◌==◌, nat_lt, codes, if◌then◌else◌}
use Rattle.std.specs.List.{flat_map}
use Rattle.std.specs.Str.{chars}
use Rattle.std.specs.Char.{encode_utf8}

-- a character that no document has, however it is written
abbrev pub is_unwritable : ℕ → Bool
is_unwritable c = nat_lt c 32 || ((c == 65534) || (c == 65535))

-- the replacement character, U+FFFD, for one that can't be written
abbrev pub plain_char : ℕ → List ℕ
plain_char c = encode_utf8 (if is_unwritable c then 65533 else c)

-- a character by a reference, where it needs one to stand in character data or between double quotes as it is
abbrev pub xml_char : ℕ → List ℕ
xml_char c =
    if c == 38 then codes "&amp;"
    else (if c == 60 then codes "&lt;"
    else (if c == 62 then codes "&gt;"
    else (if c == 34 then codes "&quot;"
    else (if c == 9 then codes "&#9;"
    else (if c == 10 then codes "&#10;"
    else (if c == 13 then codes "&#13;" else plain_char c))))))

abbrev pub xml_text : List ℕ → List ℕ
xml_text t = flat_map xml_char (chars t)

-- an attribute of this name, whose value is written so, behind a space
unfoldable pub attribute : List ℕ → List ℕ → List ℕ
attribute n v = codes " " ++ (n ++ (codes "=\"" ++ (v ++ codes "\"")))
