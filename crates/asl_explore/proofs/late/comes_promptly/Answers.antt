use Rattle.std.proofs.Common.{◌∙◌, ap, sym}
use Rattle.asl_run_state.specs.World.{World}
use Rattle.asl_run_state.proofs.Bareness.{outcome-one}
use Rattle.asl_exec.specs.Probes.{setup_of}
use Rattle.asl_explore.proofs.Lateness.{promptly-is}
use Rattle.asl_explore.proofs.late.comes_promptly.Goals as goal

pub returns-clause-prompt : goal.returns-clause-prompt
returns-clause-prompt c t =
    promptly-is (setup_of c.args.probe.now) c.deref.result.now c.args.found.now.outcome (c.in_ok-replay.ensures.timed c.if-not-branch.false) (c.in_ok-replay.ensures.tried c.if-not-branch.false)
    (ap (λ (w : World). w.outcome) (sym (c.in_ok-replay.ensures.world c.if-not-branch.false)) ∙ sym c.outcome.ensures ∙ outcome-one c.outcome.result.now c.args.found.now.outcome (sym c.eq.ensures ∙ t))
