use Rattle.std.proofs.Common.{arith, ap, length, [], ◌∙◌, refl}
use Rattle.std.proofs.lemmas.List.{length-append}
use Rattle.asl_json_scan.proofs.Escapes.{plain_run, to_end}
use Rattle.asl_json_read.proofs.quoted.quoted_text.Goals as goal

pub txt-requires : goal.txt-requires
txt-requires c = (c.split_plain.ensures.utf8 c.requires).0

pub returns-in-Some-clause-found : goal.returns-in-Some-clause-found
returns-in-Some-clause-found c =
    let s = c.split_plain.result.0.now in
    rw c.in_ok-txt.ensures (plain_run c.args.bytes.now [] c.args.bytes.now _ _ s refl c.split_plain.ensures.parts c.split_plain.ensures.plain refl ∙ to_end s _ _ c.in-Some.ensures.found)

pub returns-in-Some-clause-shorter : goal.returns-in-Some-clause-shorter
returns-in-Some-clause-shorter c = omega (arith, ap length c.split_plain.ensures.parts, length-append c.split_plain.result.0.now c.split_plain.result.1.now, ap length c.in-Some.ensures.found)

pub returns-in-Some-clause-utf8 : goal.returns-in-Some-clause-utf8
returns-in-Some-clause-utf8 c = c.in-Some.ensures.utf8 (c.split_plain.ensures.utf8 c.requires).1
