use Rattle.asl_cli.proofs.Held.{keep-known}
use Rattle.asl_cli.proofs.inputs.keep.Goals as goal

pub returns : goal.returns
returns c = keep-known c.args.known.now.items c.push.new.self.items _ c.args.name.now c.args.value.now c.in_ok-push.ensures.items c.in_ok-of.ensures c.in_ok-try_clone.ensures
