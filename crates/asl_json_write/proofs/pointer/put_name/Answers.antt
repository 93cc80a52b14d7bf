use Rattle.std.proofs.Common.{string_bytes}
use Rattle.std.proofs.lemmas.Iterator.{YieldsList-from_chars}
use Rattle.std.proofs.lemmas.Iterator.Consumers.{YieldsList-end}
use Rattle.std.specs.Str.{chars}
use Rattle.asl_json_write.proofs.Pointing.{name_end}
use Rattle.asl_json_write.proofs.pointer.put_name.Goals as goal

pub returns : goal.returns
returns c =
    let t = YieldsList-end (YieldsList-from_chars c.args.name.now c.utf8.name cc) c.loop-c.yielded _ c.loop-c.yielded_by _ _ c.in-None.is c.next.ensures.steps in
    name_end (string_bytes c.args.out.now) (string_bytes c.loop-c.out) c.loop-c.yielded (chars c.args.name.now) c.loop-c.invariant t.0
