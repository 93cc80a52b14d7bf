use Rattle.std.proofs.Common.{◌≤◌, length}
use Rattle.asl_host.specs.Limits.{most_bytes}
use Rattle.asl_host.proofs.input.read_line.Given as goal

abbrev pub invariant-loop : goal.invariant-loop
invariant-loop g l = length l.line.items ≤ most_bytes
