-- How far one answer reaches.
use Rattle.std.proofs.Common.{◌≡◌, ◌<◌, ◌≤◌, ◌-◌, ℕ, zero, suc, List, [], ◌∷◌, Bool, true, false, length, get_or, refl, sym, ap, ◌∙◌, arith}
use Rattle.std.specs.Prelude.{nat_lt, nat_le, Some, None, if◌then◌else◌}
use Rattle.std.proofs.lemmas.Bool.Decides.{nat_tests}
use Rattle.asl_mock.specs.Answers.{has_number, first_with, last_alike}
use Rattle.asl_mock.specs.private.Apart.{EachRanged, AreApart}
use Rattle.asl_mock.specs.declared.response.Ranged.{Ranged}
use Rattle.asl_mock.proofs.Spots.{each_at}

-- a test in front of an answer, and one in front of an end
found : (n : ℕ) (r : Ranged) (rs : List Ranged) (b : Bool) → has_number n r ≡ b → first_with n (r ∷ rs) ≡ (if b then Some r.answer else first_with n rs)
found n r rs b e = ap (λ (x : Bool). if x then Some r.answer else first_with n rs) e

ends : (n : ℕ) (r : Ranged) (rs : List Ranged) (b c : Bool) → nat_lt n r.span.low ≡ b → nat_le n r.span.high ≡ c → last_alike n (r ∷ rs) ≡ (if b then r.span.low - 1 else if c then r.span.high else last_alike n rs)
ends n r rs b c e f =
    ap (λ (x : Bool). if x then r.span.low - 1 else if nat_le n r.span.high then r.span.high else last_alike n rs) e
    ∙ ap (λ (x : Bool). if b then r.span.low - 1 else if x then r.span.high else last_alike n rs) f

pub met_last : (n : ℕ) (rs : List Ranged) (i : ℕ) (d : Ranged) → AreApart rs → i < length rs → ((e : Ranged) → (get_or rs i e).span.low ≤ n) → ((e : Ranged) → n ≤ (get_or rs i e).span.high) → last_alike n rs ≡ (get_or rs i d).span.high
met_last n [] i d h lt low high = absurd (omega (arith, lt))
met_last n (r ∷ rs) zero d h lt low high =
    let a = low r in
    let b = high r in
    ends n r rs false true (grind (arith, nat_tests, a)) (grind (arith, nat_tests, b))
met_last n (r ∷ rs) (suc i) d h lt low high =
    let a = low r in
    let b = each_at (λ (x : Ranged). r.span.high < x.span.low) rs i r h.1.0 (omega (arith, lt)) in
    let o = h.0 in
    ends n r rs false false (grind (arith, nat_tests, a, b, o)) (grind (arith, nat_tests, a, b)) ∙ met_last n rs i d h.1.1 (omega (arith, lt)) low high

pub gap_last : (n : ℕ) (rs : List Ranged) (i : ℕ) (d : Ranged) → AreApart rs → i < length rs → ((k : ℕ) (e : Ranged) → k < i → (get_or rs k e).span.high < n) → ((e : Ranged) → n < (get_or rs i e).span.low) → last_alike n rs ≡ (get_or rs i d).span.low - 1
gap_last n [] i d h lt below above = absurd (omega (arith, lt))
gap_last n (r ∷ rs) zero d h lt below above =
    let a = above r in
    let o = h.0 in
    ends n r rs true true (grind (arith, nat_tests, a)) (grind (arith, nat_tests, a, o))
gap_last n (r ∷ rs) (suc i) d h lt below above =
    let a = below 0 r (omega arith) in
    let o = h.0 in
    ends n r rs false false (grind (arith, nat_tests, a, o)) (grind (arith, nat_tests, a))
    ∙ gap_last n rs i d h.1.1 (omega (arith, lt)) (λ k e l. below (suc k) e (omega (arith, l))) above

pub past_last : (n : ℕ) (rs : List Ranged) → AreApart rs → ((k : ℕ) (e : Ranged) → k < length rs → (get_or rs k e).span.high < n) → last_alike n rs ≡ 4294967295
past_last n [] h below = refl
past_last n (r ∷ rs) h below =
    let a = below 0 r (omega arith) in
    let o = h.0 in
    ends n r rs false false (grind (arith, nat_tests, a, o)) (grind (arith, nat_tests, a))
    ∙ past_last n rs h.1.1 (λ k e l. below (suc k) e (omega (arith, l)))

-- numbers below all of these have none
none_under : (m k : ℕ) (rs : List Ranged) → EachRanged (λ (x : Ranged). m < x.span.low) rs → k ≤ m → first_with k rs ≡ None
none_under m k [] h le = refl
none_under m k (r ∷ rs) h le = let a = h.0 in found k r rs false (grind (arith, nat_tests, a, le)) ∙ none_under m k rs h.1 le

pub alike_until : (n k : ℕ) (rs : List Ranged) → AreApart rs → n ≤ k → k ≤ last_alike n rs → first_with k rs ≡ first_with n rs
alike_until n k [] h le until = refl
alike_until n k (r ∷ rs) h le until = under (alike_until n k rs h.1.1 le) (nat_lt n r.span.low) refl
  where
    o : r.span.low ≤ r.span.high
    o = h.0

    behind : (k ≤ last_alike n rs → first_with k rs ≡ first_with n rs) → (c : Bool) → nat_lt n r.span.low ≡ false → nat_le n r.span.high ≡ c → first_with k (r ∷ rs) ≡ first_with n (r ∷ rs)
    behind rest true e f =
        let u = rw (ends n r rs false true e f) at until in
        found k r rs true (grind (arith, nat_tests, e, le, u)) ∙ sym (found n r rs true (grind (arith, nat_tests, e, f)))
    behind rest false e f =
        let u = rw (ends n r rs false false e f) at until in
        found k r rs false (grind (arith, nat_tests, f, le)) ∙ rest u ∙ sym (found n r rs false (grind (arith, nat_tests, f)))

    under : (k ≤ last_alike n rs → first_with k rs ≡ first_with n rs) → (b : Bool) → nat_lt n r.span.low ≡ b → first_with k (r ∷ rs) ≡ first_with n (r ∷ rs)
    under rest true e =
        let u : k ≤ r.span.low - 1 = rw (ends n r rs true (nat_le n r.span.high) e refl) at until in
        found k r rs false (grind (arith, nat_tests, e, u))
        ∙ none_under r.span.high k rs h.1.0 (omega (arith, u, o))
        ∙ sym (none_under r.span.high n rs h.1.0 (omega (arith, u, o, le)))
        ∙ sym (found n r rs false (grind (arith, nat_tests, e)))
    under rest false e = behind rest (nat_le n r.span.high) e refl

pub no_less : (n : ℕ) (rs : List Ranged) → n ≤ 4294967295 → n ≤ last_alike n rs
no_less n [] h = h
no_less n (r ∷ rs) h = under (no_less n rs h) (nat_lt n r.span.low) refl
  where
    behind : n ≤ last_alike n rs → (c : Bool) → nat_lt n r.span.low ≡ false → nat_le n r.span.high ≡ c → n ≤ last_alike n (r ∷ rs)
    behind rest true e f = rw (ends n r rs false true e f) (grind (arith, nat_tests, f))
    behind rest false e f = rw (ends n r rs false false e f) rest

    under : n ≤ last_alike n rs → (b : Bool) → nat_lt n r.span.low ≡ b → n ≤ last_alike n (r ∷ rs)
    under rest true e = rw (ends n r rs true (nat_le n r.span.high) e refl) (grind (arith, nat_tests, e))
    under rest false e = behind rest (nat_le n r.span.high) e refl
