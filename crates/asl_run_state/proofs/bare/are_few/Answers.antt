use Rattle.std.proofs.Common.{ℕ, ◌≡◌, ◌<◌, ◌≤◌, Bool, true, false, arith, length, get_or, List, refl}
use Rattle.std.specs.Prelude.{nat_lt}
use Rattle.std.proofs.lemmas.List.{get_or_past}
use Rattle.std.proofs.lemmas.Bool.Decides.{nat_tests}
use Rattle.asl_run_state.proofs.bare.are_few.Goals as goal

everywhere : (xs : List ℕ) (i m : ℕ) → length xs ≤ i → ((k : ℕ) → k < i → get_or xs k 0 ≤ m) → (n : ℕ) → get_or xs n 0 ≤ m
everywhere xs i m l h n = by (nat_lt n i) refl
  where
    by : (b : Bool) → nat_lt n i ≡ b → get_or xs n 0 ≤ m
    by true e = h n (grind (arith, nat_tests, e))
    by false e = let p : i ≤ n = grind (arith, nat_tests, e) in let z = get_or_past xs n 0 (omega arith) in omega (arith, z)

pub returns : goal.returns
returns c e n = everywhere c.args.counts.now c.loop-count.count-index 1000000000 (omega (arith, c.loop-count-test.false)) c.loop-count.invariant n
