use Rattle.std.proofs.Common.{◌≡◌, drop}
use Rattle.std.specs.Prelude.{max}
use Rattle.std.specs.List.{fold}
use Rattle.asl_explore_errors.specs.Points.{most_in, most_of}
use Rattle.asl_explore_errors.proofs.extending.most_of.Given as goal

-- the most so far, and what is left
abbrev pub invariant-loop-one : goal.invariant-loop-one
invariant-loop-one l = fold (λ most c. max most (most_in l.number c)) l.most (drop l.one-index l.calls) ≡ most_of l.number l.calls
