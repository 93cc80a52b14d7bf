-- Something is so of a number below another.
use Rattle.std.proofs.Common.{◌≡◌, ℕ, zero, suc, ◌≤◌, ◌<◌, Bool, true, false, ◌||◌, nat_le, refl, subst, arith}
use Rattle.asl_rules.specs.Answers.{some_below}

or_true : (a : Bool) → (a || true) ≡ true
or_true true = refl
or_true false = refl

some_more : (p : ℕ → Bool) (k m : ℕ) → k ≤ m → some_below p k ≡ true → some_below p m ≡ true
some_more p k zero le is =
    let same : k ≡ zero = omega (arith, le) in subst (λ (x : ℕ). some_below p x ≡ true) same is
some_more p k (suc m) le is = by (λ (less : k ≤ m). some_more p k m less is) (nat_le k m) refl
  where
    by : (k ≤ m → some_below p m ≡ true) → (b : Bool) → nat_le k m ≡ b → some_below p (suc m) ≡ true
    by before true e =
        let less : k ≤ m = grind (arith, e) in rw (before less) refl
    by before false e =
        let same : k ≡ suc m = grind (arith, e, le) in
        subst (λ (x : ℕ). some_below p x ≡ true) same is

pub some_at : (p : ℕ → Bool) (k n : ℕ) → k < n → p k ≡ true → some_below p n ≡ true
some_at p k n less is = some_more p (suc k) n less (rw is (or_true (some_below p k)))
