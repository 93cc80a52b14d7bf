use Rattle.std.proofs.Common.{◌≡◌}
use Rattle.asl_def.proofs.NewerShown.{newer_first}
use Rattle.asl_def.proofs.table.upgrade_all.Given as goal

abbrev pub invariant-loop-number : goal.invariant-loop-number
invariant-loop-number l = l.states.entries ≡ newer_first l.number l.fn.states.entries
