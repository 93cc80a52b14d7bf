use Rattle.std.proofs.Common.{◌∙◌}
use Rattle.std.specs.Prelude.{max}
use Rattle.asl_run_branches.specs.Turns.{turn_of}
use Rattle.asl_run_state.proofs.Picks.{open-is, over-is, first-over, first-late, first-full, first-none, first-later, first-here}
use Rattle.asl_run_state.proofs.world.World.first.Goals as goal

pub returns-then-not-is_running : goal.returns-then-not-is_running
returns-then-not-is_running g c = first-over (g.L.Limits.limits c.args.limits.now) c.args.self.now c.args.moment (over-is c.args.self.now c.is_running.result c.is_running.ensures c.if-not-is_running.true)

pub returns-then-is_late : goal.returns-then-is_late
returns-then-is_late g c = first-late (g.L.Limits.limits c.args.limits.now) c.args.self.now c.args.moment c.root.result.now c.place.result.now c.is_running.result c.is_late.result c.root.ensures.branches c.root.ensures.placed c.place.ensures c.is_running.ensures c.if-not-is_running.false c.is_late.ensures c.if-is_late.true

pub returns-then-is_full : goal.returns-then-is_full
returns-then-is_full g c = first-full (g.L.Limits.limits c.args.limits.now) c.args.self.now c.args.moment c.is_late.result c.is_full.result c.is_late.ensures c.if-is_late.false c.is_full.ensures c.if-is_full.true

pub returns-in_default : goal.returns-in_default
returns-in_default g c =
    let now = max c.args.self.now.last c.args.moment in
    let open_ = open-is c.args.self.now now c.is_running.result c.is_late.result c.is_full.result c.is_running.ensures c.if-not-is_running.false c.is_late.ensures c.if-is_late.false c.is_full.ensures c.if-is_full.false in
    first-none (g.L.Limits.limits c.args.limits.now) c.args.self.now c.args.moment turn_of c.soonest.result open_ c.soonest.ensures.turn c.in_default.is

pub returns-then-millis : goal.returns-then-millis
returns-then-millis g c =
    let now = max c.args.self.now.last c.args.moment in
    let open_ = open-is c.args.self.now now c.is_running.result c.is_late.result c.is_full.result c.is_running.ensures c.if-not-is_running.false c.is_late.ensures c.if-is_late.false c.is_full.ensures c.if-is_full.false in
    first-later (g.L.Limits.limits c.args.limits.now) c.args.self.now c.args.moment turn_of c.soonest.result c.in-Some.turn c.millis.result c.millis-2.result open_ c.soonest.ensures.turn c.in-Some.is (c.millis.ensures.value ∙ c.present.ensures) c.millis-2.ensures.value c.if-millis.true

pub returns-else-millis : goal.returns-else-millis
returns-else-millis g c =
    let now = max c.args.self.now.last c.args.moment in
    let open_ = open-is c.args.self.now now c.is_running.result c.is_late.result c.is_full.result c.is_running.ensures c.if-not-is_running.false c.is_late.ensures c.if-is_late.false c.is_full.ensures c.if-is_full.false in
    first-here (g.L.Limits.limits c.args.limits.now) c.args.self.now c.args.moment turn_of c.soonest.result c.in-Some.turn c.millis.result c.millis-2.result open_ c.soonest.ensures.turn c.in-Some.is (c.millis.ensures.value ∙ c.present.ensures) c.millis-2.ensures.value c.if-millis.false
