use Rattle.std.proofs.Common.{drop}
use Rattle.asl_choice.proofs.Decided.{Skips}
use Rattle.asl_choice.proofs.rule.deciding.Given as goal

abbrev pub invariant-loop-member : goal.invariant-loop-member
invariant-loop-member l = Skips l.members (drop l.member-index l.members)
