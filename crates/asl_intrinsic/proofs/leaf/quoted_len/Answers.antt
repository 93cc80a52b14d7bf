use Rattle.std.proofs.Common.{◌<◌, ◌+◌, length, sym, ◌∙◌, arith}
use Rattle.asl_intrinsic.proofs.Leaves.{chars_more, escape_more, escape_open, escape_bad}
use Rattle.asl_intrinsic.proofs.leaf.quoted_len.Goals as goal

pub loop-end-preserved-then-byte-ne92 : goal.loop-end-preserved-then-byte-ne92
loop-end-preserved-then-byte-ne92 c = (omega arith, chars_more c.args.bytes.now c.loop-end.end c.loop-end-test.true c.if-byte-eq39.false c.if-byte-ne92.true c.loop-end.invariant.1)

pub returns-then-end-bytes-clause-broken : goal.returns-then-end-bytes-clause-broken
returns-then-end-bytes-clause-broken c = escape_open c.args.bytes.now c.loop-end.end c.loop-end-test.true c.if-byte-ne92.false c.if-end-bytes.true c.loop-end.invariant.1

pub returns-then-not-is_escaped-clause-broken : goal.returns-then-not-is_escaped-clause-broken
returns-then-not-is_escaped-clause-broken c =
    let lt : c.loop-end.end + 1 < length c.args.bytes.now = grind (arith, c.loop-end-test.true, c.if-end-bytes.false) in
    escape_bad c.args.bytes.now c.loop-end.end c.loop-end-test.true c.if-byte-ne92.false lt (sym c.is_escaped.ensures ∙ c.if-not-is_escaped.true) c.loop-end.invariant.1

pub loop-end-preserved : goal.loop-end-preserved
loop-end-preserved c =
    let lt : c.loop-end.end + 1 < length c.args.bytes.now = grind (arith, c.loop-end-test.true, c.if-end-bytes.false) in
    (omega (arith, lt), escape_more c.args.bytes.now c.loop-end.end c.loop-end-test.true c.if-byte-ne92.false lt (sym c.is_escaped.ensures ∙ c.if-not-is_escaped.false) c.loop-end.invariant.1)
