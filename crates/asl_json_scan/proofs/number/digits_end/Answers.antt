use Rattle.std.proofs.Common.{get_or, take, subst, sym, ◌∙◌, arith}
use Rattle.std.proofs.lemmas.List.{take_more}
use Rattle.asl_json_data.proofs.Numerals.{IsPart, part_push, part_stays}
use Rattle.asl_json_scan.proofs.number.digits_end.Goals as goal

pub loop-end-preserved : goal.loop-end-preserved
loop-end-preserved c =
    let xs = c.args.bytes.now in
    let i = c.loop-end.end in
    let part = c.args.part in
    let stays = part_stays part (get_or xs i 0) c.requires.takes (sym c.is_digit.ensures ∙ c.if-is_digit.true) in
    let grown = part_push part part (take i xs) (get_or xs i 0) stays c.loop-end.invariant.0 in
    (subst (IsPart part) (sym (take_more xs i 0 c.loop-end-test.true)) grown, (omega arith, omega arith))
