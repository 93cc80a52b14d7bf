use Rattle.std.proofs.Common.{◌≡◌, drop}
use Rattle.std.specs.Prelude.{find, map}
use Rattle.asl_explain.specs.Codes.{code_of, is_meant}
use Rattle.asl_explain.proofs.finding.find_in.Given as goal

abbrev pub invariant-loop-one : goal.invariant-loop-one
invariant-loop-one l = find (is_meant l.exactly l.word) (map code_of (drop l.one-index l.family)) ≡ find (is_meant l.exactly l.word) (map code_of l.family)
