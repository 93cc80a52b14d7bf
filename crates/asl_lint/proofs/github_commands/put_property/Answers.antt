use Rattle.std.proofs.Common.{string_bytes}
use Rattle.std.proofs.lemmas.Iterator.{YieldsList-from_chars}
use Rattle.std.proofs.lemmas.Iterator.Consumers.{YieldsList-end}
use Rattle.std.specs.Str.{chars}
use Rattle.asl_text.proofs.Letters.{end}
use Rattle.asl_lint.specs.Github.{property_char}
use Rattle.asl_lint.proofs.github_commands.put_property.Goals as goal

pub returns : goal.returns
returns c =
    let t = YieldsList-end (YieldsList-from_chars c.args.text.now c.utf8.text cc) c.loop-c.yielded _ c.loop-c.yielded_by _ _ c.in-None.is c.next.ensures.steps in
    record { is = end property_char (string_bytes c.args.out.now) (string_bytes c.loop-c.out) c.loop-c.yielded (chars c.args.text.now) c.loop-c.invariant t.0 }
