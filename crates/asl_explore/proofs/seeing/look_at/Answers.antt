use Rattle.std.proofs.Common.{◌&&◌, ◌∙◌, ap, sym, is_some}
use Rattle.asl_def.specs.Machines.{states_of}
use Rattle.asl_run_input.specs.declared.setup.Setup.{Setup}
use Rattle.asl_exec.specs.Probes.{setup_of, world_of}
use Rattle.asl_exec.specs.Steps.{invokes_by, number_in, object_in}
use Rattle.asl_explore.proofs.Sighting.{look-is}
use Rattle.asl_explore.proofs.seeing.look_at.Goals as goal

pub returns : goal.returns
returns c o h =
    let s = setup_of c.args.probe.now in
    let w = world_of c.args.probe.now in
    let p = c.args.place.now in
    let r = c.in_ok-current.current.now in
    let at = sym c.in_ok-current.ensures in
    let goes = c.goes_next-goes.ensures o h in
    let number = ap (λ (z : Setup). number_in z.machine r) (sym c.setup.ensures) ∙ sym c.state_of-number.ensures.number ∙ c.in_ok-number.was in
    let invokes = c.invokes_in.ensures (states_of c.setup.result.now.machine) ∙ ap invokes_by (c.state_of-number.ensures.object ∙ ap (λ (z : Setup). object_in z.machine r) c.setup.ensures) in
    let begins = c.both-begins.ensures ∙ (λ i. c.is_beginning.ensures i && invokes i) in
    look-is o s w p r _ at number
    (c.both-enters.ensures ∙ (λ i. goes i && c.is_entering.ensures i))
    (c.both-asks.ensures ∙ (λ i. goes i && begins i))
    (c.both-stops.ensures ∙ (λ i. c.is_stopped.ensures (ap is_some at) i && c.is_inside.ensures i))
