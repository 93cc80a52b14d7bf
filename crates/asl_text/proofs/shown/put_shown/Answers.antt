use Rattle.std.proofs.Common.{string_bytes}
use Rattle.std.proofs.lemmas.Iterator.{YieldsList-from_chars}
use Rattle.std.proofs.lemmas.Iterator.Consumers.{YieldsList-end}
use Rattle.std.specs.Str.{chars}
use Rattle.asl_text.specs.Shown.{shown_char}
use Rattle.asl_text.proofs.Letters.{end}
use Rattle.asl_text.proofs.shown.put_shown.Goals as goal

pub returns : goal.returns
returns c =
    let t = YieldsList-end (YieldsList-from_chars c.args.text.now c.utf8.text cc) c.loop-character.yielded _ c.loop-character.yielded_by _ _ c.in-None.is c.next.ensures.steps in
    end shown_char (string_bytes c.args.out.now) (string_bytes c.loop-character.out) c.loop-character.yielded (chars c.args.text.now) c.loop-character.invariant t.0
