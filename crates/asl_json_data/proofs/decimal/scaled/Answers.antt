use Rattle.std.proofs.Common.{◌+◌, arith}
use Rattle.asl_json_data.proofs.Amounts.{scaled_more, scaled_grows}
use Rattle.asl_json_data.proofs.decimal.scaled.Goals as goal

pub returns-then-scaled-ge-AMOUNT_LIMIT : goal.returns-then-scaled-ge-AMOUNT_LIMIT
returns-then-scaled-ge-AMOUNT_LIMIT c =
    let more = scaled_more c.args.number c.loop-zero._zero c.loop-zero.scaled c.loop-zero.invariant.0 in
    let grown = scaled_grows c.args.number (c.loop-zero._zero + 1) c.args.zeros (omega arith) in
    let large = c.if-scaled-ge-AMOUNT_LIMIT.true in
    omega (arith, more, grown, large)

pub loop-zero-preserved : goal.loop-zero-preserved
loop-zero-preserved c = (scaled_more c.args.number c.loop-zero._zero c.loop-zero.scaled c.loop-zero.invariant.0, c.if-scaled-ge-AMOUNT_LIMIT.false)
