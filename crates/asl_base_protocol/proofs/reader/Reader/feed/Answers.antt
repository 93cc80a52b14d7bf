use Rattle.std.proofs.Common.{subst, sym}
use Rattle.asl_base_protocol.specs.Standing.{Stands}
use Rattle.asl_base_protocol.proofs.Reading.{fed}
use Rattle.asl_base_protocol.proofs.reader.Reader.feed.Goals as goal

pub returns-in-Ok-clause-ok : goal.returns-in-Ok-clause-ok
returns-in-Ok-clause-ok c = λ input is a.
    let begun = subst (Stands a.rest) (sym c.replace-part.ensures.value) a.stands in
    fed input c.args.bytes.now is c.args.items.now.items c.go_on.new.items.items c.args.self.now _ a (c.in-Ok.ensures.goes a.rest begun)
