use Rattle.std.proofs.Common.{◌+◌, ◌∙◌, ap, arith, length}
use Rattle.std.proofs.lemmas.List.{length_push, length-map}
use Rattle.asl_run_branches.specs.Branches.{Branch}
use Rattle.asl_run_branches.specs.Earliest.{due_from}
use Rattle.asl_run_branches.specs.declared.earliest.Earliest.{Earliest}
use Rattle.asl_exec.specs.Probes.{setup_of, world_of}
use Rattle.asl_explore.proofs.Sighting.{looks-more, turn-place}
use Rattle.asl_explore.proofs.seeing.looks_in.Goals as goal

pub loop-turn-preserved : goal.loop-turn-preserved
loop-turn-preserved c =
    let w = world_of c.args.probe.now in
    let ls = c.loop-turn.looks.items in
    let i = c.loop-turn.turn-index in
    let turn = c.turn-item.result in
    let inv = c.loop-turn.invariant in
    rw c.in_ok-push.ensures.items (record {
      many = length_push ls c.look_at.result ∙ ap (λ n. n + 1) inv.many;
      each = λ o et h. looks-more o (setup_of c.args.probe.now) w ls i turn.place c.look_at.result inv.many (λ b. turn-place w.last w.branches c.args.turns.now i turn b et c.loop-turn-test.true c.turn-item.is) (c.look_at.ensures o h) (inv.each o et h);
    })

pub returns-clause-looks : goal.returns-clause-looks
returns-clause-looks c o et h =
    let w = world_of c.args.probe.now in
    let inv = c.loop-turn.invariant in
    let long = ap (length {A = Earliest}) et ∙ length-map w.branches (λ (b : Branch). record { place = b.place; moment = due_from w.last b.current }) in
    record {
      many = omega (arith, inv.many, long, c.loop-turn-test.false, c.loop-turn.auto.turn-index-end);
      each = inv.each o et h;
    }
