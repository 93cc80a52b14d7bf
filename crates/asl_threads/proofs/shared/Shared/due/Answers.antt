use Rattle.std.proofs.Common.{◌<◌, ◌≤◌, ◌∙◌, ℕ, subst}
use Rattle.std.specs.Prelude.{Some, None}
use Rattle.asl_exec.specs.Steps.{limits_in}
use Rattle.asl_exec.specs.Views.{setup_of, world_of}
use Rattle.asl_run_state.specs.Picking.{Place, Moment}
use Rattle.asl_threads.proofs.Dues.{due-is, not-yet, has-come}
use Rattle.asl_threads.proofs.shared.Shared.due.Goals as goal

pub returns-then-millis : goal.returns-then-millis
returns-then-millis c =
    let setup = setup_of c.execution-execution.result.now in
    let world = world_of c.execution-execution.result.now in
    let before : c.args.now < c.in-At.moment = subst (λ (n : ℕ). n < c.in-At.moment) c.millis.ensures.value (subst (λ (t : ℕ). c.millis.result < t) c.millis-in-At.ensures.value c.if-millis.true) in
    not-yet (limits_in setup.machine) world c.args.now c.in-At.moment before
    ∙ due-is c.args.self.now c.session.result.now setup world c.args.now (Moment c.in-At.moment)
    c.session.ensures c.execution-execution.ensures.setup c.execution-execution.ensures.world c.in-At.ensures.picked

pub returns-in-Step : goal.returns-in-Step
returns-in-Step c =
    due-is c.args.self.now c.session.result.now (setup_of c.execution-execution.result.now) (world_of c.execution-execution.result.now) c.args.now (Place c.in-Step.place.now)
    c.session.ensures c.execution-execution.ensures.setup c.execution-execution.ensures.world c.in-Step.ensures.picked

pub returns-in-Some : goal.returns-in-Some
returns-in-Some c =
    let setup = setup_of c.execution-execution.result.now in
    let world = world_of c.execution-execution.result.now in
    let after : c.in-At.moment ≤ c.args.now = subst (λ (n : ℕ). c.in-At.moment ≤ n) c.millis.ensures.value (subst (λ (t : ℕ). t ≤ c.millis.result) c.millis-in-At.ensures.value c.if-millis.false) in
    has-come (limits_in setup.machine) world c.args.now c.in-At.moment (Some c.in-Some.place.now) after c.in-Some.ensures
    ∙ due-is c.args.self.now c.session.result.now setup world c.args.now (Moment c.in-At.moment)
    c.session.ensures c.execution-execution.ensures.setup c.execution-execution.ensures.world c.in-At.ensures.picked

pub returns-in-None : goal.returns-in-None
returns-in-None c =
    let setup = setup_of c.execution-execution.result.now in
    let world = world_of c.execution-execution.result.now in
    let after : c.in-At.moment ≤ c.args.now = subst (λ (n : ℕ). c.in-At.moment ≤ n) c.millis.ensures.value (subst (λ (t : ℕ). t ≤ c.millis.result) c.millis-in-At.ensures.value c.if-millis.false) in
    has-come (limits_in setup.machine) world c.args.now c.in-At.moment None after c.in-None.ensures
    ∙ due-is c.args.self.now c.session.result.now setup world c.args.now (Moment c.in-At.moment)
    c.session.ensures c.execution-execution.ensures.setup c.execution-execution.ensures.world c.in-At.ensures.picked
