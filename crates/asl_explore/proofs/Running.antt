-- Runs of answers, one after another.
use Rattle.std.proofs.Common.{ℕ, ◌≡◌, ◌<◌, ◌≤◌, ◌+◌, ◌++◌, ◌∙◌, ap, sym, refl, arith, Bool, true, false, List, [], ◌∷◌}
use Rattle.std.specs.Prelude.{is_some, nat_le}
use Rattle.std.proofs.lemmas.Bool.Decides.{nat_tests}
use Rattle.asl_mock.specs.Answers.{Case, answer_to}
use Rattle.asl_explore.specs.declared.answers.Run.{Run}
use Rattle.asl_explore.specs.Remarks.{AreRuns, IsRun}
use Rattle.asl_explore.specs.Settled.{last_answer}

runs-push : (c : Case) (name : List ℕ) (from below : ℕ) (rs : List Run) (r : Run) → AreRuns c name from below rs → r.low ≡ below → IsRun c name r → AreRuns c name from (r.high + 1) (rs ++ r ∷ [])
runs-push c name from below [] r h e is = (e ∙ sym h, (is, refl))
runs-push c name from below (x ∷ rs) r h e is = (h.0, (h.1.0, runs-push c name (x.high + 1) below rs r h.1.1 e is))

-- the answers are equal from a low number up to this one
abbrev pub AreOneTo : Case → List ℕ → ℕ → ℕ → Type 0
AreOneTo c name low high = (i : ℕ) → low ≤ i → i ≤ high → answer_to c name i ≡ answer_to c name low

module _ (c : Case) (name : List ℕ) (low : ℕ) where
  pub run-put : (high : ℕ) (b : Bool) (rs : List Run) → low ≤ high → high ≤ last_answer → AreOneTo c name low high → (high < last_answer → answer_to c name (high + 1) ≡ answer_to c name low → ⊥)
      → b ≡ is_some (answer_to c name low) → AreRuns c name 0 low rs → AreRuns c name 0 (high + 1) (rs ++ record { low = low; high = high; is_answer = b } ∷ [])
  run-put high b rs le within one other is h = runs-push c name 0 low rs (record { low = low; high = high; is_answer = b }) h refl (record {
    order = le;
    within = within;
    one = one;
    ends = other;
    is_answer = is;
  })

  -- so are those behind it that are one with it
  pub one-on : (number high : ℕ) → low ≤ number → AreOneTo c name low number → AreOneTo c name number high → AreOneTo c name low high
  one-on number high le one more i li il = by (nat_le i number) refl
    where
      by : (b : Bool) → nat_le i number ≡ b → answer_to c name i ≡ answer_to c name low
      by true t = one i li (grind (arith, nat_tests, t))
      by false f =
          let past : number < i = grind (arith, nat_tests, f) in
          more i (omega (arith, past)) il ∙ one number le (omega arith)

  -- and so is the next one, if it is equal
  pub one-next : (number : ℕ) → AreOneTo c name low number → answer_to c name (number + 1) ≡ answer_to c name low → AreOneTo c name low (number + 1)
  one-next number one e i li il = by (nat_le i number) refl
    where
      by : (b : Bool) → nat_le i number ≡ b → answer_to c name i ≡ answer_to c name low
      by true t = one i li (grind (arith, nat_tests, t))
      by false f =
          let past : number < i = grind (arith, nat_tests, f) in
          let same : i ≡ number + 1 = omega (arith, past, il) in
          ap (answer_to c name) same ∙ e

-- one number alone
pub one-alone : (c : Case) (name : List ℕ) (low : ℕ) → AreOneTo c name low low
one-alone c name low i a b = ap (answer_to c name) (omega (arith, a, b))
