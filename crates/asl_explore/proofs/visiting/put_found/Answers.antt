use Rattle.std.proofs.Common.{List, ◌≡◌, ◌∙◌, subst, sym, ap}
use Rattle.asl_run_input.specs.declared.step_at.StepAt.{StepAt}
use Rattle.asl_run_branches.proofs.Sameness.{unless}
use Rattle.asl_run_state.proofs.Bareness.{outcome_eq, outcome-one}
use Rattle.asl_exec.specs.Steps.{opening, world_after}
use Rattle.asl_exec.specs.Probes.{setup_of, world_of}
use Rattle.asl_explore.specs.declared.found.Found.{Found}
use Rattle.asl_explore.specs.Searches.{outcomes_of, IsLater}
use Rattle.asl_explore.specs.Orders.{timed, places_of, AreTried}
use Rattle.asl_explore.proofs.Growing.{later-same}
use Rattle.asl_explore.proofs.Finding.{later-found, shown-more, once-more}
use Rattle.asl_explore.proofs.visiting.put_found.Goals as goal

pub returns-in_err-replay-clause-later : goal.returns-in_err-replay-clause-later
returns-in_err-replay-clause-later c ws = later-same ws (outcomes_of c.args.found.now.list.items)

pub returns-then-not-branch-clause-later : goal.returns-then-not-branch-clause-later
returns-then-not-branch-clause-later c ws = later-same ws (outcomes_of c.args.found.now.list.items)

pub returns-then-ne-clause-later : goal.returns-then-ne-clause-later
returns-then-ne-clause-later c ws = later-same ws (outcomes_of c.args.found.now.list.items)

pub returns-in_err-outcome-clause-later : goal.returns-in_err-outcome-clause-later
returns-in_err-outcome-clause-later c ws = later-same ws (outcomes_of c.args.found.now.list.items)

pub returns-in_err-push-clause-later : goal.returns-in_err-push-clause-later
returns-in_err-push-clause-later c ws = subst (λ (fs : List Found). IsLater ws (outcomes_of c.args.found.now.list.items) ws (outcomes_of fs)) (sym c.in_err-push.ensures.err) (later-same ws (outcomes_of c.args.found.now.list.items))

pub returns-clause-later : goal.returns-clause-later
returns-clause-later c ws = later-found ws c.args.found.now.list.items c.push.new.self.list.items (record { outcome = c.in_ok-outcome.outcome; steps = c.args.steps }) c.in_ok-push.ensures.put

pub returns-clause-shown : goal.returns-clause-shown
returns-clause-shown c =
    let s = setup_of c.args.probe.now in
    shown-more c.args.orders s c.args.found.now.list.items c.push.new.self.list.items (record { outcome = c.in_ok-outcome.outcome; steps = c.args.steps }) c.args.outcome.now c.outcome.result.now (world_of c.replay.new.probe) c.in_ok-push.ensures.put c.in_ok-outcome.ensures c.requires.over
    (c.in_ok-replay.ensures.world c.if-not-branch.false ∙ ap (λ (xs : List StepAt). world_after s (opening s) xs) c.deref.ensures.value) c.outcome.ensures (outcome-one c.outcome.result.now c.args.outcome.now (unless (outcome_eq c.outcome.result.now c.args.outcome.now) (sym c.if-ne.false ∙ c.ne.ensures)))
    (subst (λ (xs : List StepAt). xs ≡ timed s (opening s) (places_of xs)) c.deref.ensures.value (c.in_ok-replay.ensures.timed c.if-not-branch.false))
    (subst (λ (xs : List StepAt). AreTried c.args.orders s (opening s) (places_of xs)) c.deref.ensures.value (c.in_ok-replay.ensures.tried c.if-not-branch.false))

pub returns-clause-once : goal.returns-clause-once
returns-clause-once c = once-more c.args.found.now.list.items c.push.new.self.list.items (record { outcome = c.in_ok-outcome.outcome; steps = c.args.steps }) c.args.outcome.now c.in_ok-push.ensures.put c.in_ok-outcome.ensures
    c.requires.new
