use Rattle.std.proofs.Common.{Some, []}
use Rattle.asl_json_spans.specs.Places.{place, place_at}
use Rattle.asl_suite_coverage.proofs.Lines.{lined}
use Rattle.asl_suite_coverage.proofs.siting.reached_by.Goals as goal

pub returns-clause-lined : goal.returns-clause-lined
returns-clause-lined c = λ d outline.
    let found = c.find.ensures c.args.text.now d outline in
    record {
      way = c.args.way.now;
      node = c.find.result;
      stands = found;
      line_is = lined c.args.text.now (place_at (Some (place [] d)) c.args.way.now) c.find.result c.reached.result.at c.reached.result.lines c.reached.result.characters found (rw c.begin_of.ensures at c.reached.ensures.at) c.reached.ensures.position;
    }
