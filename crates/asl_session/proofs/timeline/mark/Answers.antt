use Rattle.std.proofs.Common.{◌≤◌, ◌*◌, length, arith}
use Rattle.asl_exec.specs.Views.{setup_of}
use Rattle.asl_session.proofs.Marking.{marks-push}
use Rattle.asl_session.proofs.timeline.mark.Goals.{in-Ok, in-Err}
use Rattle.asl_session.proofs.timeline.mark.Goals as goal

pub returns-clause-marks : goal.returns-clause-marks
returns-clause-marks c =
    let s = setup_of c.args.execution.now in
    let steps = c.args.steps.now in
    let old = c.args.checkpoints.now.items in
    let full : 64 * length old ≤ length steps = omega (arith, c.if-steps-len.false, c.len.ensures) in
    elim c.match-push.branch [
      | in-Ok w ↦ rw w.in-Ok.ensures.items (marks-push s steps old c.in_ok-checkpoint.checkpoint c.requires.marks full (rw c.requires.world at c.in_ok-checkpoint.ensures))
      | in-Err w ↦ rw w.in-Err.ensures.items c.requires.marks
    ]
