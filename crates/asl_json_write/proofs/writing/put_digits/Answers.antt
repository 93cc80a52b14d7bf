use Rattle.std.proofs.Common.{lit<, [], ◌∷◌, List, ℕ}
use Rattle.std.proofs.lemmas.Str.{IsUtf8-from_ascii}
use Rattle.std.proofs.lemmas.Str.Ascii.{IsAscii-nil}
use Rattle.asl_json_data.proofs.Figures.{ascii_more}
use Rattle.asl_json_write.proofs.writing.put_digits.Goals as goal

pub append-requires : goal.append-requires
append-requires c =
    let low : List ℕ = c.digit-2.result ∷ [] in
    let both : List ℕ = c.digit.result ∷ low in
    let digits = ascii_more c.digit.result low c.digit.ensures.ascii (ascii_more c.digit-2.result [] c.digit-2.ensures.ascii IsAscii-nil) in
    let four = ascii_more 48 (48 ∷ both) (lit< tt) (ascii_more 48 both (lit< tt) digits) in
    IsUtf8-from_ascii (92 ∷ 117 ∷ 48 ∷ 48 ∷ both) (ascii_more 92 (117 ∷ 48 ∷ 48 ∷ both) (lit< tt) (ascii_more 117 (48 ∷ 48 ∷ both) (lit< tt) four))
