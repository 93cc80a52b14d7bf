use Rattle.std.proofs.Common.{◌∙◌, ◌≡◌, sym, ap, true, false, Some}
use Rattle.std.specs.Prelude.{max, is_some}
use Rattle.asl_run_branches.specs.Turns.{turn_of}
use Rattle.asl_run_state.specs.Picking.{Place, Moment, lesser}
use Rattle.asl_run_state.proofs.Picks.{open-is, last-open, running-is, next-late, next-later, next-here}
use Rattle.asl_run_state.proofs.Doing.{can, early-at-root}
use Rattle.asl_run_state.proofs.world.World.next.Goals as goal

pub returns-then-is_late : goal.returns-then-is_late
returns-then-is_late g c =
    let limits = g.L.Limits.limits c.args.limits.now in
    let w = c.args.self.now in
    let picked = next-late limits w c.root.result.now c.place.result.now c.is_running.result c.is_late.result c.is_full.result c.last-last.result c.root.ensures.branches c.root.ensures.placed c.place.ensures c.is_running.ensures c.if-not-is_running.false c.is_full.ensures c.if-is_full.false c.last-last.ensures c.is_late.ensures c.if-is_late.true in
    record {
      picked = picked;
      done = can limits w (Place c.place.result.now) (early-at-root limits w c.root.result.now c.root.ensures.branches (running-is w c.is_running.result c.is_running.ensures c.if-not-is_running.false)) picked (λ h. (cc));
    }

pub unreachable-requires : goal.unreachable-requires
unreachable-requires g c =
    let some : is_some c.soonest.result ≡ true = c.soonest.ensures.goes (running-is c.args.self.now c.is_running.result c.is_running.ensures c.if-not-is_running.false) in
    let none : is_some c.soonest.result ≡ false = ap is_some c.in_default.is in
    let x : true ≡ false = sym some ∙ none in (cc)

pub returns-then-millis : goal.returns-then-millis
returns-then-millis g c =
    let limits = g.L.Limits.limits c.args.limits.now in
    let w = c.args.self.now in
    let open_ = open-is w (max w.last c.last-last.result) c.is_running.result c.is_late.result c.is_full.result c.is_running.ensures c.if-not-is_running.false c.is_late.ensures c.if-is_late.false c.is_full.ensures c.if-is_full.false in
    let picked = next-later limits w turn_of c.soonest.result c.in-Some.turn c.last-last.result c.millis.result c.millis-2.result c.within.result c.last-last.ensures open_ c.soonest.ensures.turn c.in-Some.is c.millis.ensures.value c.millis-2.ensures.value c.if-millis.true (c.within.ensures ∙ ap (lesser (Some c.in-Some.turn.moment)) c.deadline.ensures) in
    record {
      picked = picked;
      done = can limits w (Moment c.within.result) (λ n. (last-open w c.last-last.result c.last-last.ensures open_).early) picked (λ h. (cc));
    }

pub returns-else-millis : goal.returns-else-millis
returns-else-millis g c =
    let limits = g.L.Limits.limits c.args.limits.now in
    let w = c.args.self.now in
    let open_ = open-is w (max w.last c.last-last.result) c.is_running.result c.is_late.result c.is_full.result c.is_running.ensures c.if-not-is_running.false c.is_late.ensures c.if-is_late.false c.is_full.ensures c.if-is_full.false in
    let picked = next-here limits w turn_of c.soonest.result c.in-Some.turn c.last-last.result c.millis.result c.millis-2.result c.last-last.ensures open_ c.soonest.ensures.turn c.in-Some.is c.millis.ensures.value c.millis-2.ensures.value c.if-millis.false in
    record {
      picked = picked;
      done = can limits w (Place c.in-Some.turn.place.now) (λ n. (last-open w c.last-last.result c.last-last.ensures open_).early) picked (λ h. (cc));
    }
