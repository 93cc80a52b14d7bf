use Rattle.std.specs.Prelude.{⊤}
use Rattle.asl_explore.proofs.calls.number_of.Given as goal

abbrev pub invariant-loop-number : goal.invariant-loop-number
invariant-loop-number l = ⊤
