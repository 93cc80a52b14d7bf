use Rattle.std.proofs.Common.{◌≡◌, ℕ, [], get_or, length}
use Rattle.std.specs.Prelude.{map}
use Rattle.asl_lint_warnings.proofs.standing.bare.Given as goal

abbrev pub invariant-loop : goal.invariant-loop
invariant-loop l = (length l.edges.items ≡ l.counter) × ((i : ℕ) → get_or (map (λ v. v.items) l.edges.items) i [] ≡ [])
