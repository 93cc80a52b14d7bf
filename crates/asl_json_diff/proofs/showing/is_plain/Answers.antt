use Rattle.std.proofs.Common.{◌∙◌, ap}
use Rattle.std.proofs.lemmas.Iterator.{YieldsList-from_chars}
use Rattle.std.proofs.lemmas.Iterator.Consumers.{YieldsList-end}
use Rattle.std.specs.Prelude.{not}
use Rattle.std.specs.List.{list_any}
use Rattle.std.specs.Str.{chars}
use Rattle.asl_json_diff.specs.Shown.{is_out_of_place}
use Rattle.asl_text.proofs.Letters.{whole}
use Rattle.asl_json_diff.proofs.showing.is_plain.Goals as goal

pub returns : goal.returns
returns c =
    let t = YieldsList-end (YieldsList-from_chars c.args.name.now c.utf8.name cc) c.loop-character.yielded _ c.loop-character.yielded_by _ _ c.in-None.is c.next.ensures.steps in
    ap not (c.loop-character.invariant ∙ ap (list_any is_out_of_place) (whole c.loop-character.yielded (chars c.args.name.now) t.0))
