-- Answers in the order of their numbers, none of them for a number of another.
use Rattle.std.specs.Prelude.{◌≡◌, ◌≤◌, ◌<◌, ℕ, List, [], ◌∷◌, Bool, true, false, Option, Some, None, slice_index_or, length}
use Rattle.std.specs.List.{list_any}
use Rattle.asl_json_data.specs.Data.{Data}
use Rattle.asl_mock.specs.Answers.{with_answer}
use Rattle.asl_mock.specs.Faults.{have_a_number}
use Rattle.asl_mock.specs.declared.key.Span.{Span}
use Rattle.asl_mock.specs.declared.response.Ranged.{Ranged}
use Rattle.std.specs.declared.vec.Vec.{Vec}

abbrev pub EachRanged : (Ranged → Type 0) → List Ranged → Type 0
EachRanged P [] = Unit {0}
EachRanged P (r ∷ rs) = P r × EachRanged P rs

abbrev pub AreApart : List Ranged → Type 0
AreApart [] = Unit {0}
AreApart (r ∷ rs) =
    (r.span.low ≤ r.span.high)
    × (EachRanged (λ (x : Ranged). r.span.high < x.span.low) rs × AreApart rs)

-- the answer with number i has a number of the span
pub record Meets (s : Span) (rs : List Ranged) (i : ℕ) : Type 0 where
  pub within : i < length rs
  pub low : (d : Ranged) → (slice_index_or rs i d).span.low ≤ s.high
  pub high : (d : Ranged) → s.low ≤ (slice_index_or rs i d).span.high

-- those before i are below the span, and those from i on above it
pub record IsGap (s : Span) (rs : List Ranged) (i : ℕ) : Type 0 where
  pub within : i ≤ length rs
  pub below : (k : ℕ) (d : Ranged) → k < i → (slice_index_or rs k d).span.high < s.low
  pub above : (k : ℕ) (d : Ranged) → i ≤ k → k < length rs
      → s.high < (slice_index_or rs k d).span.low

abbrev pub any_has : Option Span → List Ranged → Bool
any_has None rs = false
any_has (Some s) rs = list_any (λ (r : Ranged). have_a_number s r.span) rs

-- the answers with one more, or none where its key has a number of another
abbrev pub Added : {Y : Type 0} → Option Span → Data → List Ranged → Option (Vec Ranged Y) → Type 0
Added s d rs (Some v) = (v.items ≡ with_answer s d rs) × (AreApart v.items × (any_has s rs ≡ false))
Added s d rs None = any_has s rs ≡ true
