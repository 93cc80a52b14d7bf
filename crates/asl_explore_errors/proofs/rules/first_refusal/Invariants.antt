use Rattle.std.proofs.Common.{◌≡◌, drop}
use Rattle.asl_explore_errors.specs.Rules.{first_refusal}
use Rattle.asl_explore_errors.proofs.rules.first_refusal.Given as goal

-- none was met so far
abbrev pub invariant-loop-under : goal.invariant-loop-under
invariant-loop-under l = first_refusal l.number (drop l.under-index l.found) ≡ first_refusal l.number l.found
