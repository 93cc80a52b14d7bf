use Rattle.std.proofs.Common.{◌≡◌, take}
use Rattle.asl_run_formats.proofs.emulation.copied.Given as goal

abbrev pub invariant-loop-at : goal.invariant-loop-at
invariant-loop-at l = l.copy.items ≡ take l.at-index l.steps
