use Rattle.std.proofs.Common.{◌<◌, ◌∙◌, ap, arith, get_or, length, [], None}
use Rattle.std.proofs.lemmas.List.{length-map}
use Rattle.asl_run_branches.specs.Branches.{Branch}
use Rattle.asl_run_branches.specs.Earliest.{due_from}
use Rattle.asl_run_branches.specs.declared.earliest.Earliest.{Earliest}
use Rattle.asl_step.specs.declared.record.Record.TheVariants.{Failed}
use Rattle.asl_run_state.specs.Bare.{bare}
use Rattle.asl_exec.specs.Probes.{setup_of}
use Rattle.asl_explore.proofs.Noted.{most-more}
use Rattle.asl_explore.proofs.Sighting.{turn-place}
use Rattle.asl_explore.proofs.sights.ask_all.Goals as goal

pub loop-index-preserved : goal.loop-index-preserved
loop-index-preserved c =
    let s = setup_of c.args.probe.now in
    let w = bare c.args.world.now in
    let i = c.loop-index.index in
    let turn = c.index-turns-index.result in
    let inv = c.loop-index.invariant in
    record {
      setup = c.ask_for.ensures.setup ∙ inv.setup;
      many = c.ask_for.ensures.many ∙ inv.many;
      each = λ o et looks n d l.
          let long = ap (length {A = Earliest}) et ∙ length-map w.branches (λ (b : Branch). record { place = b.place; moment = due_from w.last b.current }) in
          let lt : i < length w.branches = omega (arith, long, c.loop-index-test.true) in
          let b : Branch = record { place = []; current = Failed (record { error = None; cause = None }) } in
          most-more o s (setup_of c.loop-index.probe) w n i b (get_or c.args.turns.now i turn).place _ _ _ _ inv.setup lt
          (turn-place w.last w.branches c.args.turns.now i turn b et c.loop-index-test.true c.index-turns-index.is ∙ ap (λ (e : Earliest). e.place) c.index-turns-index.is)
          ((looks.each i b _ (omega (arith, lt, looks.many))).asks_is n)
          (inv.each o et looks n d l)
          (c.in_ok-ask_for.ensures.each c.if-not-branch.false n d (omega (arith, l, inv.many)));
    }
