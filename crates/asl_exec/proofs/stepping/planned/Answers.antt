use Rattle.std.proofs.Common.{◌∙◌, ap, refl, map}
use Rattle.asl_def.specs.Machines.{states_of}
use Rattle.asl_exec.specs.Steps.{seen_at, invokes_by, object_in, number_in}
use Rattle.asl_run_state.specs.World.{count_of}
use Rattle.asl_exec.proofs.Accepting.{seen-is, effect-is}
use Rattle.asl_exec.proofs.stepping.planned.Goals as goal

pub returns-clause-effect : goal.returns-clause-effect
returns-clause-effect c =
    let d = c.args.machine.now in
    let r = c.args.frame.now.head.current in
    let object = c.state_of-number.ensures.object ∙ ap (object_in d) c.held-current.ensures in
    effect-is d c.args.context.now.facts _ r c.in_ok-effect.effect _ (seen_at d c.args.case.now c.args.world.now c.args.place.now c.args.now r)
    (c.in_ok-effect.ensures.effect (states_of d))
    object
    (seen-is d c.args.case.now c.args.world.now c.args.place.now c.args.now r _ refl c.held-current.ensures
    (ap (map (λ r. r.now)) c.deref.ensures.value ∙ c.in_ok-children.ensures ∙ c.requires)
    c.forker_at.ensures
    c.iteration_at.ensures
    (c.invokes_in.ensures (states_of d) ∙ ap invokes_by object)
    (c.count.ensures ∙ ap (count_of c.args.world.now.counts) (c.state_of-number.ensures.number ∙ ap (number_in d) c.held-current.ensures))
    refl refl)
    refl
