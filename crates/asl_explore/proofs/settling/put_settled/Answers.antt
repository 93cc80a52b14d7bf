use Rattle.asl_explore.proofs.SettledTasks.{settled-put}
use Rattle.asl_explore.proofs.settling.put_settled.Goals as goal

pub returns-then-number-len : goal.returns-then-number-len
returns-then-number-len c all =
    let x = rw c.in-Some.is at c.in_ok-number.ensures in
    settled-put c.args.setup.now c.args.from.now.items c.as_str.result.now c.in-Some.number c.in-Some.count x.0 x.1 all
