use Rattle.std.proofs.Common.{◌≡◌, drop}
use Rattle.asl_json_spans.specs.private.Marks.{found}
use Rattle.asl_json_spans.proofs.finding.found.Given as goal

abbrev pub invariant-loop-number : goal.invariant-loop-number
invariant-loop-number l = found l.rest (drop l.number-index l.place) ≡ found l.nodes l.place
