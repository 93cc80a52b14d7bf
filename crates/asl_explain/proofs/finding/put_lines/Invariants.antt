use Rattle.std.proofs.Common.{◌≡◌, ◌++◌, drop}
use Rattle.std.specs.Prelude.{string_bytes}
use Rattle.asl_explain.specs.Codes.{family_lines}
use Rattle.asl_explain.proofs.finding.put_lines.Given as goal

abbrev pub invariant-loop-one : goal.invariant-loop-one
invariant-loop-one l = string_bytes l.out ++ family_lines (drop l.one-index l.family) ≡ string_bytes l.fn.out ++ family_lines l.family
