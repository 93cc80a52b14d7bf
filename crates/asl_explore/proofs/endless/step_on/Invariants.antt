use Rattle.std.proofs.Common.{◌≡◌}
use Rattle.asl_exec.specs.Probes.{setup_of}
use Rattle.asl_explore.proofs.endless.step_on.Given as goal

-- the setup stays
abbrev pub invariant-loop-turn : goal.invariant-loop-turn
invariant-loop-turn l = setup_of l.probe ≡ setup_of l.fn.probe
