-- A message as it is sent (Language Server Protocol 3.17, "Base Protocol"): a header part of one field, and the content part.
use Rattle.std.specs.Prelude.{ℕ, List, ◌∷◌, ◌++◌, length, codes}
use Rattle.std.specs.Fmt.{decimal}

-- the field that says so many bytes
unfoldable pub length_field : ℕ → List ℕ
length_field n = codes "Content-Length: " ++ decimal n

abbrev pub message : List ℕ → List ℕ
message content = length_field (length content) ++ (13 ∷ 10 ∷ 13 ∷ 10 ∷ content)
