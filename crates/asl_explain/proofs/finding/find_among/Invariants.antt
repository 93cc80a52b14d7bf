use Rattle.std.proofs.Common.{◌≡◌, drop}
use Rattle.asl_explain.specs.Codes.{codes_of, first_meant}
use Rattle.asl_explain.proofs.finding.find_among.Given as goal

abbrev pub invariant-loop-family : goal.invariant-loop-family
invariant-loop-family l = first_meant l.exactly l.word (codes_of (drop l.family-index l.families)) ≡ first_meant l.exactly l.word (codes_of l.families)
