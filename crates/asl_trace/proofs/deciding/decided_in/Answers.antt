use Rattle.std.proofs.Common.{◌≡◌, ◌∙◌, Some, ap, refl, map}
use Rattle.std.proofs.lemmas.Result.{IfOk-weaker}
use Rattle.asl_def.specs.Machines.{states_of}
use Rattle.asl_def_states.specs.Show.{state_of as state_shown}
use Rattle.asl_exec.specs.Steps.{invokes_by, object_in, number_in}
use Rattle.asl_exec.proofs.Accepting.{seen-is}
use Rattle.asl_run_state.specs.World.{count_of}
use Rattle.asl_trace.specs.Deciding.{deciding_in, wanted_in}
use Rattle.asl_trace.proofs.deciding.decided_in.Goals as goal

pub returns-in-Some-clause-deciding : goal.returns-in-Some-clause-deciding
returns-in-Some-clause-deciding c =
    let d = c.args.machine.now in
    let r = c.args.frame.now.head.current in
    let object : Some (state_shown (states_of d) c.in-Some.state.now) ≡ object_in d r = (rw c.in-Some.is at c.state_of-number.ensures.object) ∙ ap (object_in d) c.held-current.ensures in
    let same = seen-is d c.args.case.now c.args.world.now c.args.place.now c.args.now r _ refl c.held-current.ensures
    (ap (map (λ r. r.now)) c.deref.ensures.value ∙ c.in_ok-children.ensures ∙ c.requires)
    c.forker_at.ensures
    c.iteration_at.ensures
    (c.invokes_in.ensures (states_of d) ∙ ap invokes_by (c.state_of-number.ensures.object ∙ ap (object_in d) c.held-current.ensures))
    (c.count.ensures ∙ ap (count_of c.args.world.now.counts) (c.state_of-number.ensures.number ∙ ap (number_in d) c.held-current.ensures))
    refl refl in
    IfOk-weaker c.by_state.result _ _ (λ x e. e ∙ (λ i. deciding_in (object i) c.args.context.now.facts (same i))) (c.by_state.ensures.deciding (states_of d))

pub returns-in-Some-clause-stages : goal.returns-in-Some-clause-stages
returns-in-Some-clause-stages c =
    let d = c.args.machine.now in
    let r = c.args.frame.now.head.current in
    let object : Some (state_shown (states_of d) c.in-Some.state.now) ≡ object_in d r = (rw c.in-Some.is at c.state_of-number.ensures.object) ∙ ap (object_in d) c.held-current.ensures in
    let same = seen-is d c.args.case.now c.args.world.now c.args.place.now c.args.now r _ refl c.held-current.ensures
    (ap (map (λ r. r.now)) c.deref.ensures.value ∙ c.in_ok-children.ensures ∙ c.requires)
    c.forker_at.ensures
    c.iteration_at.ensures
    (c.invokes_in.ensures (states_of d) ∙ ap invokes_by (c.state_of-number.ensures.object ∙ ap (object_in d) c.held-current.ensures))
    (c.count.ensures ∙ ap (count_of c.args.world.now.counts) (c.state_of-number.ensures.number ∙ ap (number_in d) c.held-current.ensures))
    refl refl in
    IfOk-weaker c.by_state.result _ _ (λ x e. e ∙ (λ i. wanted_in c.args.staged (object i) c.args.context.now.facts (same i))) (c.by_state.ensures.stages (states_of d))
