-- Numbers that have answers.
use Rattle.std.proofs.Common.{◌≡◌, ◌<◌, ◌+◌, ℕ, zero, suc, Bool, true, false, List, [], ◌∷◌, length, get_or, drop, refl, sym, ap, ◌∙◌, arith}
use Rattle.std.specs.Prelude.{◌||◌, ◌&&◌, nat_le, Option, Some, None, if◌then◌else◌}
use Rattle.std.specs.List.{list_any}
use Rattle.std.proofs.lemmas.Bool.{cases_lt, and_parts, and_from, leb-true, le-leb}
use Rattle.std.proofs.lemmas.List.{drop_more}
use mathlib.Core.Logic.{◌⊎◌, inl, inr, ⊎_elim}
use Rattle.asl_json_data.specs.Data.{Data}
use Rattle.asl_json.specs.View.{member_of, members_of}
use Rattle.asl_json.specs.declared.value.Member.{Member}
use Rattle.asl_mock.specs.Key.{span_in}
use Rattle.asl_mock.specs.declared.key.Span.{Span}
use Rattle.asl_lint_mocks.specs.Warnings.{has_number, is_answered, begins_bare, has_gap}
use Rattle.asl_lint_mocks.specs.private.Tops.{reached}

pub or_true : (b : Bool) → (b || true) ≡ true
or_true true = refl
or_true false = refl

-- by the answer of this key
answered_by : (ms : List Member) (i : ℕ) (m : Member) (n : ℕ) → i < length ms → m ≡ get_or ms i m → has_number n (span_in m.key) ≡ true → is_answered (members_of ms) n ≡ true
answered_by [] i m n lt at h = absurd (omega (arith, lt))
answered_by (x ∷ ms) zero m n lt at h = ap (λ (b : Bool). b || is_answered (members_of ms) n) (ap (λ (z : Member). has_number n (span_in z.key)) (sym at) ∙ h)
answered_by (x ∷ ms) (suc i) m n lt at h = ap (λ (b : Bool). has_number n (span_in x.key) || b) (answered_by ms i m n (omega (arith, lt)) at h) ∙ or_true (has_number n (span_in x.key))

-- a number within the reach was within it before, or is one of this key
within : (reach : ℕ) (o : Option Span) (n : ℕ) → n < reached reach o → (n < reach) ⊎ (has_number n o ≡ true)
within reach None n lt = inl lt
within reach (Some s) n lt = which (nat_le s.low reach && nat_le reach s.high) refl lt
  where
    which : (b : Bool) → (nat_le s.low reach && nat_le reach s.high) ≡ b → n < (if b then s.high + 1 else reach) → (n < reach) ⊎ (has_number n (Some s) ≡ true)
    which false e below = inl below
    which true e below =
        let low = leb-true s.low reach (and_parts (nat_le s.low reach) (nat_le reach s.high) e).0 in
        ⊎_elim
        (λ lt. inl lt)
        (λ le. inr (and_from (nat_le s.low n) (nat_le n s.high) (le-leb s.low n (omega (arith, low, le))) (le-leb n s.high (omega (arith, below)))))
        (cases_lt n reach)

pub answered_more : (ms : List Member) (i : ℕ) (m : Member) (reach : ℕ) → i < length ms → m ≡ get_or ms i m → ((n : ℕ) → n < reach → is_answered (members_of ms) n ≡ true) → (n : ℕ) → n < reached reach (span_in m.key) → is_answered (members_of ms) n ≡ true
answered_more ms i m reach lt at so_far n below =
    ⊎_elim
    (λ old. so_far n old)
    (λ new. answered_by ms i m n lt at new)
    (within reach (span_in m.key) n below)

-- a key that doesn't begin bare leaves it to the others
pub left_more : (ms : List Member) (i : ℕ) (m : Member) → i < length ms → m ≡ get_or ms i m → begins_bare (members_of ms) (span_in m.key) ≡ false → list_any (λ x. begins_bare (members_of ms) (span_in x.0)) (members_of (drop i ms)) ≡ has_gap (members_of ms) → list_any (λ x. begins_bare (members_of ms) (span_in x.0)) (members_of (drop (i + 1) ms)) ≡ has_gap (members_of ms)
left_more ms i m lt at bare so_far =
    let rest = list_any (λ (x : List ℕ × Data). begins_bare (members_of ms) (span_in x.0)) (members_of (drop (i + 1) ms)) in
    let front : members_of (drop i ms) ≡ member_of m ∷ members_of (drop (i + 1) ms) = ap members_of (drop_more ms i m lt ∙ ap (λ (x : Member). x ∷ drop (i + 1) ms) (sym at)) in
    sym (ap (list_any (λ (x : List ℕ × Data). begins_bare (members_of ms) (span_in x.0))) front ∙ ap (λ (b : Bool). b || rest) bare) ∙ so_far
