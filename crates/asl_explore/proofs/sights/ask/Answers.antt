use Rattle.std.proofs.Common.{ap, arith}
use Rattle.std.proofs.lemmas.List.{get_or_read}
use Rattle.asl_run_state.specs.Bare.{bare}
use Rattle.asl_exec.specs.Probes.{setup_of}
use Rattle.asl_explore.specs.declared.sights.Sight.{Sight}
use Rattle.asl_explore.specs.Remarks.{count_behind}
use Rattle.asl_explore.proofs.Noted.{ask-kept, behind-once}
use Rattle.asl_explore.proofs.sights.ask.Goals as goal

pub returns-then-count-index-clause-each : goal.returns-then-count-index-clause-each
returns-then-count-index-clause-each c t =
    let s = setup_of c.args.probe.now in
    let w = bare c.args.world.now in
    let p = c.args.place.now in
    let k = c.args.number in
    let x = c.index.result.now in
    ask-kept k (count_behind s w k p) c.args.sights.now.items (λ d l.
    let once = behind-once s w k p in
    let read = ap (λ (z : Sight). z.most) (get_or_read c.args.sights.now.items k x l c.index.ensures d) in
    omega (arith, once, read, c.count.ensures, c.if-count-index.true))
