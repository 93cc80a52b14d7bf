use Rattle.std.proofs.Common.{◌∙◌, sym}
use Rattle.std.proofs.lemmas.Bool.{and_parts}
use Rattle.asl_json_scan.proofs.Fronts.{plain_more}
use Rattle.asl_json_scan.proofs.front.are_plain.Goals as goal

pub loop-byte-preserved : goal.loop-byte-preserved
loop-byte-preserved c = λ e.
    let both = and_parts c.loop-byte.all c.is_plain-all.result e in
    plain_more c.args.bytes.now c.loop-byte.byte-index c.loop-byte-test.true (c.loop-byte.invariant both.0) (sym c.is_plain-all.ensures ∙ both.1)
