-- A text with colours: the text in pieces, each behind a control sequence or none.
use Rattle.std.specs.Prelude.{ℕ, List, [], ◌∷◌, ◌++◌, ◌≡◌, codes}
use Rattle.std.specs.List.{flat_map}
use Rattle.asl_text.specs.declared.paint.Paint.{Paint}
use Rattle.asl_text.specs.declared.paint.Paint.TheVariants.{Same, Plain, Dim, Red, Green, Yellow}

-- what lets a terminal show what follows so (ECMA-48, 8.3.117, SGR)
unfoldable pub control : Paint → List ℕ
control Same = []
control Plain = 27 ∷ codes "[0m"
control Dim = 27 ∷ codes "[2m"
control Red = 27 ∷ codes "[31m"
control Green = 27 ∷ codes "[32m"
control Yellow = 27 ∷ codes "[33m"

abbrev pub Piece : Type 0
Piece = Paint × List ℕ

abbrev pub shown_piece : Piece → List ℕ
shown_piece p = control p.0 ++ p.1

abbrev pub plain_piece : Piece → List ℕ
plain_piece p = p.1

-- this is shown of a text: it, and nothing but control sequences besides
abbrev pub IsPainted : List ℕ → List ℕ → Type 0
IsPainted text shown =
    (ps : List Piece) × (text ≡ flat_map plain_piece ps) × (shown ≡ flat_map shown_piece ps)

-- of a text so much more is shown now
abbrev pub Adds : List ℕ → List ℕ → List ℕ → Type 0
Adds text old new = (shown : List ℕ) × IsPainted text shown × (new ≡ old ++ shown)
