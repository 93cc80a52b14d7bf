-- Two texts with a mark between them.
use Rattle.std.proofs.Common.{◌≡◌, ◌∙◌, ◌<◌, ◌+◌, ℕ, Bool, List, [], ◌∷◌, ◌||◌, true, false, not, cond, ap, ap₂, sym, arith, refl, length}
use Rattle.std.specs.Prelude.{◌==◌, Option, Some, None, MatchOption, if◌then◌else◌}
use Rattle.std.specs.Borrow.{Bor}
use Rattle.std.specs.List.{list_any, position_or_len, before_first, after_first}
use Rattle.std.proofs.lemmas.List.Folds.{list_any_at}
use Rattle.std.proofs.lemmas.List.Sums.{prefix_len_stops}
use Rattle.std.proofs.lemmas.Str.Pattern.{IsSplitOnceResult, split_once_first}
use Rattle.asl_words.specs.Asked.{at_mark}

module _ {X : Type 0} (p : X → Bool) where
  unless : (b : Bool) → not b ≡ false → b ≡ true
  unless true e = refl
  unless false e = cc

  -- an element within the list passes
  one_passes : (xs : List X) (d : X) → position_or_len p xs < length xs → list_any p xs ≡ true
  one_passes xs d within =
      list_any_at p xs (position_or_len p xs) d within (unless _ (prefix_len_stops (λ x. not (p x)) xs d within))

  none_passes : (xs : List X) → position_or_len p xs ≡ length xs → list_any p xs ≡ false
  none_passes [] whole = refl
  none_passes (x ∷ xs) whole = by (p x) (none_passes xs) whole
    where
      by : (b : Bool) → (position_or_len p xs ≡ length xs → list_any p xs ≡ false) → cond (not b) (1 + position_or_len p xs) 0 ≡ length (x ∷ xs) → (b || list_any p xs) ≡ false
      by true rest w = absurd (omega arith)
      by false rest w = rest (omega arith)

abbrev either : {T : Type 0} → (ℕ → Bool) → (List ℕ → List ℕ → Option T) → List ℕ → Bool → Option T
either is_mark by bs b = if b then by (before_first is_mark bs) (after_first is_mark bs) else None

-- what stands before and behind the first mark
pub marked : {T : Type 0} (mark : ℕ) (by : List ℕ → List ℕ → Option T) → mark < 128 → (bs : List ℕ) (r : Option (Bor (List ℕ) × Bor (List ℕ))) → IsSplitOnceResult mark bs r
    → MatchOption r (None ≡ at_mark (λ c. c == mark) by bs) (λ x. by x.0.now x.1.now ≡ at_mark (λ c. c == mark) by bs)
marked mark by small bs None h = sym (ap (either (λ c. c == mark) by bs) (none_passes (λ c. c == mark) bs (split_once_first mark bs None h small)))
marked mark by small bs (Some x) h =
    let first = split_once_first mark bs (Some x) h small in
    ap₂ by first.1 first.2 ∙ sym (ap (either (λ c. c == mark) by bs) (one_passes (λ c. c == mark) bs 0 first.0))
