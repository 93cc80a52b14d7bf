-- A gap is a number without an answer below one that has one.
use Rattle.std.proofs.Common.{◌≡◌, ◌<◌, ◌≤◌, ◌+◌, ◌-◌, ℕ, zero, suc, Bool, true, false, List, [], ◌∷◌, refl, ap, subst, ◌∙◌, arith}
use Rattle.std.specs.Prelude.{◌||◌, not, nat_le, nat_lt, Option, Some, None, if◌then◌else◌}
use Rattle.std.specs.List.{list_any, before_first, after_first}
use Rattle.std.proofs.lemmas.Bool.{and_parts, and_from, and_cases, not-true, leb-true, leb-false, le-leb, ltb-true, lt-ltb}
use mathlib.Core.Logic.{⊎_elim}
use Rattle.asl_json_data.specs.Data.{Data}
use Rattle.asl_json_data.specs.Distinct.{Members}
use Rattle.asl_mock.specs.Key.{number_in, span_of, span_in, is_dash}
use Rattle.asl_mock.specs.declared.key.Span.{Span}
use Rattle.asl_lint_mocks.specs.Laws.{LeavesOut}
use Rattle.asl_lint_mocks.specs.Warnings.{has_number, is_answered, begins_bare, has_gap}
use Rattle.asl_lint_mocks.proofs.Answering.{or_true}

or_off_left : (a b : Bool) → (a || b) ≡ false → a ≡ false
or_off_left true b e = absurd (cc e)
or_off_left false b e = refl

or_off_right : (a b : Bool) → (a || b) ≡ false → b ≡ false
or_off_right true b e = absurd (cc e)
or_off_right false b e = e

-- ---- numbers of a key stand in order

abbrev low_in : Option Span → ℕ
low_in None = 0
low_in (Some s) = s.low

abbrev high_in : Option Span → ℕ
high_in None = 0
high_in (Some s) = s.high

spans : (a b : Option ℕ) (s : Span) → span_of a b ≡ Some s → s.low ≤ s.high
spans None b s e = absurd (cc e)
spans (Some a) None s e = absurd (cc e)
spans (Some a) (Some b) s e = which (nat_le a b) refl e
  where
    which : (c : Bool) → nat_le a b ≡ c → (if c then Some (record { low = a; high = b }) else None) ≡ Some s → s.low ≤ s.high
    which true h e = omega (arith, leb-true a b h, ap low_in e, ap high_in e)
    which false h e = absurd (cc e)

in_order : (t : List ℕ) (s : Span) → span_in t ≡ Some s → s.low ≤ s.high
in_order t s e = which (list_any is_dash t) e
  where
    which : (c : Bool) → (if c then span_of (number_in (before_first is_dash t)) (number_in (after_first is_dash t)) else span_of (number_in t) (number_in t)) ≡ Some s → s.low ≤ s.high
    which true e = spans (number_in (before_first is_dash t)) (number_in (after_first is_dash t)) s e
    which false e = spans (number_in t) (number_in t) s e

-- ---- a gap leaves out a number

abbrev Begins : Members → (ℕ → Bool) → Type 0
Begins all is_there = (s : Span) × (begins_bare all (Some s) ≡ true) × (is_there s.low ≡ true)

begins_own : (all : Members) (k : List ℕ) (o : Option Span) → span_in k ≡ o → begins_bare all o ≡ true → Begins all (λ n. has_number n (span_in k))
begins_own all k None is b = absurd (cc b)
begins_own all k (Some s) is b = (s, b, ap (has_number s.low) is ∙ and_from (nat_le s.low s.low) (nat_le s.low s.high) (le-leb s.low s.low (omega arith)) (le-leb s.low s.high (in_order k s is)))

begins_in : (all ms : Members) → list_any (λ x. begins_bare all (span_in x.0)) ms ≡ true → Begins all (is_answered ms)
begins_in all [] h = absurd (cc h)
begins_in all (x ∷ ms) h = which (begins_bare all (span_in x.0)) refl h (begins_in all ms)
  where
    which : (b : Bool) → begins_bare all (span_in x.0) ≡ b → (b || list_any (λ y. begins_bare all (span_in y.0)) ms) ≡ true → (list_any (λ y. begins_bare all (span_in y.0)) ms ≡ true → Begins all (is_answered ms)) → Begins all (is_answered (x ∷ ms))
    which true e h next = let own = begins_own all x.0 (span_in x.0) refl e in (own.0, own.1, ap (λ (b : Bool). b || is_answered ms own.0.low) own.2)
    which false e h next = let rest = next h in (rest.0, rest.1, ap (λ (b : Bool). has_number rest.0.low (span_in x.0) || b) rest.2 ∙ or_true (has_number rest.0.low (span_in x.0)))

pub left_out : (ms : Members) → has_gap ms ≡ true → LeavesOut ms
left_out ms h =
    let b = begins_in ms ms h in
    let s = b.0 in
    let parts = and_parts (nat_lt 0 s.low) (not (is_answered ms (s.low - 1))) b.1 in
    (s.low - 1, s.low, omega (arith, ltb-true 0 s.low parts.0), not-true (is_answered ms (s.low - 1)) parts.1, b.2)

-- ---- a number that is left out is a gap

-- a key with a number, and without the one before it, begins there
begins_there : (all : Members) (o : Option Span) (n : ℕ) → is_answered all n ≡ false → has_number n o ≡ false → has_number (n + 1) o ≡ true → begins_bare all o ≡ true
begins_there all None n none off there = absurd (cc there)
begins_there all (Some s) n none off there =
    let low = leb-true s.low (n + 1) (and_parts (nat_le s.low (n + 1)) (nat_le (n + 1) s.high) there).0 in
    let high = leb-true (n + 1) s.high (and_parts (nat_le s.low (n + 1)) (nat_le (n + 1) s.high) there).1 in
    let above : n < s.low = ⊎_elim
    (λ l. leb-false s.low n l)
    (λ h. absurd (omega (arith, high, leb-false n s.high h)))
    (and_cases (nat_le s.low n) (nat_le n s.high) off) in
    let before : s.low - 1 ≡ n = omega (arith, low, above) in
    and_from (nat_lt 0 s.low) (not (is_answered all (s.low - 1))) (lt-ltb 0 s.low (omega (arith, above))) (ap (λ (k : ℕ). not (is_answered all k)) before ∙ ap not none)

begins_among : (all ms : Members) (n : ℕ) → is_answered all n ≡ false → is_answered ms n ≡ false → is_answered ms (n + 1) ≡ true → list_any (λ x. begins_bare all (span_in x.0)) ms ≡ true
begins_among all [] n none off there = absurd (cc there)
begins_among all (x ∷ ms) n none off there = which (has_number (n + 1) (span_in x.0)) refl there (begins_among all ms n none (or_off_right (has_number n (span_in x.0)) (is_answered ms n) off))
  where
    which : (b : Bool) → has_number (n + 1) (span_in x.0) ≡ b → (b || is_answered ms (n + 1)) ≡ true → (is_answered ms (n + 1) ≡ true → list_any (λ y. begins_bare all (span_in y.0)) ms ≡ true) → (begins_bare all (span_in x.0) || list_any (λ y. begins_bare all (span_in y.0)) ms) ≡ true
    which true e h next = ap (λ (b : Bool). b || list_any (λ (y : List ℕ × Data). begins_bare all (span_in y.0)) ms) (begins_there all (span_in x.0) n none (or_off_left (has_number n (span_in x.0)) (is_answered ms n) off) e)
    which false e h next = ap (λ (b : Bool). begins_bare all (span_in x.0) || b) (next h) ∙ or_true (begins_bare all (span_in x.0))

-- up from the number without an answer to the first that has one
climb : (ms : Members) (k n m : ℕ) → m ≡ n + 1 + k → is_answered ms n ≡ false → is_answered ms m ≡ true → has_gap ms ≡ true
climb ms zero n m e none there = begins_among ms ms n none none (subst (λ (i : ℕ). is_answered ms i ≡ true) (omega (arith, e)) there)
climb ms (suc k) n m e none there = which (is_answered ms (n + 1)) refl (λ bare. climb ms k (n + 1) m (omega (arith, e)) bare there)
  where
    which : (b : Bool) → is_answered ms (n + 1) ≡ b → (is_answered ms (n + 1) ≡ false → has_gap ms ≡ true) → has_gap ms ≡ true
    which true answered next = begins_among ms ms n none none answered
    which false bare next = next bare

pub gap : (ms : Members) → LeavesOut ms → has_gap ms ≡ true
gap ms l = climb ms (l.1 - (l.0 + 1)) l.0 l.1 (omega (arith, l.2)) l.3 l.4
