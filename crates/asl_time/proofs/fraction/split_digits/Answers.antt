use Rattle.std.proofs.Common.{arith}
use Rattle.std.proofs.lemmas.List.Elements.{All-more}
use Rattle.std.specs.Char.{digit_value}
use Rattle.std.proofs.Common.{◌<◌}
use Rattle.asl_time.proofs.Fractions.{digit_small}
use Rattle.asl_time.proofs.fraction.split_digits.Goals as goal

pub loop-i-preserved : goal.loop-i-preserved
loop-i-preserved c =
    All-more (λ b. digit_value b < 10) c.args.bytes.now c.loop-i.i 0 (omega arith) c.loop-i.invariant (digit_small _ c.if-not-is_ascii_digit.ensures.cases)
