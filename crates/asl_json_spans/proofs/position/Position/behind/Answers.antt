use Rattle.asl_json_spans.proofs.Counting.{feed_passed}
use Rattle.asl_json_spans.proofs.position.Position.behind.Goals as goal

pub returns-then-byte-eq10-clause-position : goal.returns-then-byte-eq10-clause-position
returns-then-byte-eq10-clause-position c = λ t h. feed_passed t c.args.byte c.args.self.lines c.args.self.characters c.if-byte-eq10.true h
