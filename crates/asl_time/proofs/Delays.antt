-- Delays grow to a cap, and one that doesn't grow stays.
use Rattle.std.proofs.Common.{◌≡◌, ◌≤◌, ◌+◌, ◌-◌, ◌*◌, ◌/◌, min, ℕ, zero, suc, sym, ◌∙◌, ap, arith, refl}
use Rattle.asl_time.specs.Delay.{delay_after}

module _ (first rate longest : ℕ) where
  abbrev pub next : ℕ → ℕ
  next d = min (d * rate / 1_000_000_000) longest

  pub start : delay_after first rate longest 0 ≡ min first longest
  unfolding delay_after
  start = refl

  step : (n : ℕ) → delay_after first rate longest (suc n) ≡ next (delay_after first rate longest n)
  unfolding delay_after
  step n = refl

  pub more : (n m d : ℕ) → m ≡ n + 1 → d ≡ delay_after first rate longest n → next d ≡ delay_after first rate longest m
  more n m d e f =
      let count : suc n ≡ m = omega arith in
      ap next f ∙ sym (step n) ∙ ap (delay_after first rate longest) count

  stays : (n k d : ℕ) → d ≡ delay_after first rate longest n → next d ≡ d → delay_after first rate longest (k + n) ≡ d
  stays n zero d e f =
      let count : zero + n ≡ n = omega arith in
      ap (delay_after first rate longest) count ∙ sym e
  stays n (suc k) d e f = sym (more (k + n) (suc k + n) d (omega arith) (sym (stays n k d e f))) ∙ f

  pub still : (n m d : ℕ) → n ≤ m → d ≡ delay_after first rate longest n → next d ≡ d → d ≡ delay_after first rate longest m
  still n m d l e f =
      let count : (m - n) + n ≡ m = omega arith in
      sym (stays n (m - n) d e f) ∙ ap (delay_after first rate longest) count
