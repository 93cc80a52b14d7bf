use Rattle.std.proofs.Common.{◌-◌, arith}
use Rattle.asl_explore.proofs.Reaching.{link-at}
use Rattle.asl_explore.proofs.endless.Reaching.go_back_from.Goals as goal

pub returns-in_err-go_back : goal.returns-in_err-go_back
returns-in_err-go_back c o s ws h =
    let x = c.loop.invariant o s ws h in
    c.go_back.ensures o s ws x (link-at o s ws c.loop.self.known.items c.loop.self.links.items (c.loop.number - 1) c.index-link.result.now (omega (arith, c.loop.self.links.ok.0, c.len-else-number-eq0.ensures, c.if-number-eq0.false, c.if-number-len.false)) c.index-link.ensures x)

pub loop-preserved : goal.loop-preserved
loop-preserved c o s ws h =
    let x = c.loop.invariant o s ws h in
    c.go_back.ensures o s ws x (link-at o s ws c.loop.self.known.items c.loop.self.links.items (c.loop.number - 1) c.index-link.result.now (omega (arith, c.loop.self.links.ok.0, c.len-else-number-eq0.ensures, c.if-number-eq0.false, c.if-number-len.false)) c.index-link.ensures x)
