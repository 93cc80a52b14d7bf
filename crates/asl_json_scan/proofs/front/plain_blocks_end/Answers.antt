use Rattle.std.proofs.Common.{◌≡◌, ◌+◌, ◌-◌, take, drop, subst, arith}
use Rattle.asl_json_data.specs.Text.{ArePlain}
use Rattle.asl_json_scan.proofs.Fronts.{plain_block}
use Rattle.asl_json_scan.proofs.front.plain_blocks_end.Goals as goal

pub loop-end-preserved : goal.loop-end-preserved
loop-end-preserved c =
    let xs = c.args.bytes.now in
    let i = c.loop-end.end in
    let width : (i + 16) - i ≡ 16 = omega arith in
    (plain_block xs i 16 c.loop-end.invariant.0 (subst (λ n. ArePlain (take n (drop i xs))) width (c.are_plain.ensures c.if-not-are_plain.false)), omega (arith, c.loop-end-test.true))
