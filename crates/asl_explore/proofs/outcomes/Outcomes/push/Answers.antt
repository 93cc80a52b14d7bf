use Rattle.std.specs.Prelude.{is_ok}
use Rattle.std.specs.String.{string_bytes}
use Rattle.asl_explore.proofs.Known.{known-push}
use Rattle.asl_explore.proofs.outcomes.Outcomes.push.Goals as goal

pub invariant_of-self-2 : goal.invariant_of-self-2
invariant_of-self-2 c = record {
  known = known-push c.args.self.now.numbers c.insert.new.self (string_bytes c.in_ok-text.text) c.len.result c.in_ok-insert.ensures.updates c.args.self.now.list.items c.push.new.self.items c.args.found (is_ok c.push.result) c.args.self.now.known c.in_ok-text.ensures c.push.ensures.items;
}
