use Rattle.std.proofs.Common.{ℕ, List, subst}
use Rattle.asl_host.specs.Outcomes.{sink_use}
use Rattle.asl_cli.specs.Noting.{IsNoted}
use Rattle.asl_cli.proofs.noting.tell_notes.Goals as goal

pub returns : goal.returns
returns g c = subst (λ (t : List ℕ). IsNoted (sink_use g.E.Sink.taken g.E.Sink.failures c.args.err.now c.tell_all.new.err) t) c.unless_quiet.ensures c.tell_all.ensures
