use Rattle.std.proofs.Common.{◌≡◌, false, true, sym, ◌∙◌, ap, subst, max, ℕ}
use Rattle.std.specs.Prelude.{OnOk}
use Rattle.asl_run_branches.specs.Branches.{forker_at}
use Rattle.asl_run_branches.specs.Turns.{limit_of}
use Rattle.asl_run_state.specs.World.{World, is_late, timed_out, world_with}
use Rattle.asl_run_state.proofs.Accepting.{accepted-room, has_place, goes_there}
use Rattle.asl_exec.specs.Steps.{limits_in, step, seen_at}
use Rattle.asl_exec.proofs.Accepting.{effect-bounded, step_taken, step_late, applied}
use Rattle.asl_exec.proofs.execution.Execution.take.Goals as goal

pub returns-then-is_late-clause-ok : goal.returns-then-is_late-clause-ok
returns-then-is_late-clause-ok c =
    let s = c.args.self.now.setup in
    let w : World = c.args.self.now.world in
    let late : is_late (max w.last c.args.moment) w.deadline ≡ true = sym c.is_late.ensures ∙ c.if-is_late.true in
    let ends : timed_out c.present-now.result w ≡ step s w c.args.place.now c.args.moment = ap (λ (now : ℕ). timed_out now w) c.present-now.ensures ∙ sym (step_late s w c.args.place.now c.args.moment c.requires late) in
    subst (λ (v : World). OnOk c.time_out.result (c.time_out.new.self ≡ v)) ends c.time_out.ensures.ok

pub unreachable-requires : goal.unreachable-requires
unreachable-requires c =
    let w : World = c.args.self.now.world in
    let early : is_late (max w.last c.args.moment) w.deadline ≡ false = sym c.is_late.ensures ∙ c.if-is_late.false in
    has_place w c.args.place.now c.args.moment (limit_of (limits_in c.args.self.now.setup.machine) (forker_at c.args.place.now w.branches)) early c.requires (sym c.in_default.ensures.record)

pub apply-requires-clause-room : goal.apply-requires-clause-room
apply-requires-clause-room c =
    let w : World = c.args.self.now.world in
    let early : is_late (max w.last c.args.moment) w.deadline ≡ false = sym c.is_late.ensures ∙ c.if-is_late.false in
    accepted-room w c.args.place.now c.args.moment (limit_of (limits_in c.args.self.now.setup.machine) (forker_at c.args.place.now w.branches)) early c.requires

pub apply-requires-clause-few : goal.apply-requires-clause-few
apply-requires-clause-few c = rw c.in_ok-number.ensures.effect (effect-bounded c.args.self.now.setup.machine c.args.self.now.context.facts (seen_at c.args.self.now.setup.machine c.args.self.now.setup.case c.args.self.now.world c.args.place.now c.present-now.result c.in-Some.frame.now.head.current)).few

pub apply-requires-clause-changes_tell : goal.apply-requires-clause-changes_tell
apply-requires-clause-changes_tell c = rw c.in_ok-number.ensures.effect (effect-bounded c.args.self.now.setup.machine c.args.self.now.context.facts (seen_at c.args.self.now.setup.machine c.args.self.now.setup.case c.args.self.now.world c.args.place.now c.present-now.result c.in-Some.frame.now.head.current)).changes_tell

pub apply-requires-clause-tells : goal.apply-requires-clause-tells
apply-requires-clause-tells c = rw c.in_ok-number.ensures.effect (effect-bounded c.args.self.now.setup.machine c.args.self.now.context.facts (seen_at c.args.self.now.setup.machine c.args.self.now.setup.case c.args.self.now.world c.args.place.now c.present-now.result c.in-Some.frame.now.head.current)).tells

pub apply-requires-clause-ends : goal.apply-requires-clause-ends
apply-requires-clause-ends c root =
    let w : World = c.args.self.now.world in
    let r = c.in-Some.frame.now.head.current in
    let early : is_late (max w.last c.args.moment) w.deadline ≡ false = sym c.is_late.ensures ∙ c.if-is_late.false in
    let goes = goes_there w c.args.place.now c.args.moment (limit_of (limits_in c.args.self.now.setup.machine) (forker_at c.args.place.now w.branches)) r early c.requires (sym c.in-Some.ensures.record) in
    rw c.in_ok-number.ensures.effect ((effect-bounded c.args.self.now.setup.machine c.args.self.now.context.facts (seen_at c.args.self.now.setup.machine c.args.self.now.setup.case c.args.self.now.world c.args.place.now c.present-now.result r)).ends root goes)

pub returns-clause-ok : goal.returns-clause-ok
returns-clause-ok c =
    let s = c.args.self.now.setup in
    let w : World = c.args.self.now.world in
    let r = c.in-Some.frame.now.head.current in
    let early : is_late (max w.last c.args.moment) w.deadline ≡ false = sym c.is_late.ensures ∙ c.if-is_late.false in
    let taken = step_taken s w c.args.place.now c.args.moment c.requires early ∙ applied s w c.args.place.now (max w.last c.args.moment) r (sym c.in-Some.ensures.record) in
    let same : world_with c.args.place.now c.in_ok-number.number c.present-now.result c.in_ok-number.effect w ≡ step s w c.args.place.now c.args.moment = rw (c.in_ok-number.ensures.number, c.in_ok-number.ensures.effect, c.present-now.ensures, c.args.self.now.about) (sym taken) in
    subst (λ (v : World). OnOk c.apply.result (c.apply.new.self ≡ v)) same c.apply.ensures.ok
