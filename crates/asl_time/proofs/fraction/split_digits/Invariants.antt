use Rattle.std.proofs.Common.{◌<◌, take}
use Rattle.std.specs.Char.{digit_value}
use Rattle.std.specs.List.{All}
use Rattle.asl_time.proofs.fraction.split_digits.Given as goal

abbrev pub invariant-loop-i : goal.invariant-loop-i
invariant-loop-i l = All (λ c. digit_value c < 10) (take l.i l.bytes)
