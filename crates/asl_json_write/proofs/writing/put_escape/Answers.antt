use Rattle.std.proofs.Common.{lit<, [], ◌∷◌}
use Rattle.std.proofs.lemmas.Str.{IsUtf8-from_ascii}
use Rattle.std.proofs.lemmas.Str.Ascii.{IsAscii-nil}
use Rattle.asl_json_data.proofs.Figures.{ascii_more}
use Rattle.asl_json_write.proofs.writing.put_escape.Goals as goal

pub append-requires : goal.append-requires
append-requires c = IsUtf8-from_ascii (92 ∷ c.in-Some.letter ∷ []) (ascii_more 92 (c.in-Some.letter ∷ []) (lit< tt) (ascii_more c.in-Some.letter [] c.in-Some.ensures.0 IsAscii-nil))
