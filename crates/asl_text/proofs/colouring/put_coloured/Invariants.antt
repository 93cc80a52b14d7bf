use denote.Shadow.{shadow}
use denote.Text.{Utf8}
use Rattle.std.specs.Prelude.{string_bytes}
use Rattle.asl_text.proofs.Adding.{AreShown}
use Rattle.asl_text.proofs.colouring.put_coloured.Given as goal

abbrev pub invariant-loop : goal.invariant-loop
invariant-loop l = shadow (Utf8 l.rest) × AreShown l.fn.text l.rest (string_bytes l.fn.out) (string_bytes l.out)
