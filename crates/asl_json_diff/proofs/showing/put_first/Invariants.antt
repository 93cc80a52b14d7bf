use Rattle.std.proofs.Common.{◌≡◌, ◌++◌, ◌-◌, length, string_bytes}
use Rattle.std.specs.Prelude.{nat_lt}
use Rattle.asl_json_diff.specs.Shown.{first_chars}
use Rattle.asl_json_diff.proofs.showing.put_first.Given as goal

abbrev pub invariant-loop-character : goal.invariant-loop-character
invariant-loop-character l = record {
  text : string_bytes l.out ≡ string_bytes l.fn.out ++ first_chars l.most l.yielded;
  left : l.left ≡ l.most - length l.yielded;
  cut : l.cut ≡ nat_lt l.most (length l.yielded);
}
