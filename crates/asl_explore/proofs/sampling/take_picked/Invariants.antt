use Rattle.std.proofs.Common.{◌≡◌}
use Rattle.asl_exec.specs.Probes.{setup_of}
use Rattle.asl_explore.proofs.sampling.take_picked.Given as goal

abbrev pub invariant-loop : goal.invariant-loop
invariant-loop l = setup_of l.probe ≡ setup_of l.fn.probe
