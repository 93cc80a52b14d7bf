use Rattle.std.proofs.Common.{◌∙◌, ap, sym}
use Rattle.asl_run_branches.specs.Turns.{soonest}
use Rattle.asl_run_branches.proofs.Turning.{from-root}
use Rattle.asl_run_branches.proofs.frame.Frame.soonest.Goals as goal

pub returns-clause-turn : goal.returns-clause-turn
returns-clause-turn g c = c.seek.ensures.turn ∙ ap (soonest c.args.now) (sym (from-root (g.L.Limits.limits c.args.limits.now) c.args.self.now))
