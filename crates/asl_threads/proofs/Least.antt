use Rattle.std.proofs.Common.{◌≡◌, ℕ, ◌+◌, ◌<◌, ◌≤◌, ◌↔◌, ◌⊎◌, IsTrue, List, [], length, drop, slice_index_or, nat_eq, eq-eqb, arith, ap, sym, refl, ◌∙◌, min, Option, None, Some}
use Rattle.std.specs.Prelude.{Any, All, MatchOption}
use mathlib.Core.Logic.{⊎_elim}
use Rattle.std.specs.Option.{option_map_or}
use Rattle.std.proofs.lemmas.List.{drop_all, length-drop}
use borrow.Author.Count.{below_more}
use borrow.Author.Tests.{eqb-true}
use Rattle.asl_threads.specs.Runs.{SeatView}
use Rattle.asl_threads.specs.declared.row.Row.{Row}
use Rattle.asl_threads.specs.declared.seat.Entry.{Entry}
use Rattle.asl_threads.specs.Runs.{rows_of}
use Rattle.asl_threads.specs.Closing.{Agrees, IsLeastMismatch}

-- nothing is left of the rows: the list is theirs where nothing is left of it
pub own_end : (list : List Entry) (rows : List Row) (number at i : ℕ) → at ≤ length list → length rows ≤ i → ((list ≡ rows_of number rows) ↔ (drop at list ≡ rows_of number (drop i rows))) → (IsTrue (nat_eq at (length list)) ↔ (list ≡ rows_of number rows))
own_end list rows number at i inside past rest =
    let none : drop i rows ≡ [] = drop_all i rows past in
    let left : rows_of number (drop i rows) ≡ [] = ap (rows_of number) none in (
      (λ h. let here : at ≡ length list = eqb-true at (length list) h in rest.1 (drop_all at list (omega arith) ∙ sym left)),
      (λ h. let gone : drop at list ≡ [] = rest.0 h ∙ left in
          let zero : length (drop at list) ≡ 0 = ap (λ (xs : List Entry). length xs) gone in
          eq-eqb at (length list) (omega (arith, length-drop at list))),
    )

-- the least number so far of a seat that does not agree
abbrev pub IsLeastSoFar : ℕ → List Row → List SeatView → ℕ → Option ℕ → Type 0
IsLeastSoFar n rows seats i least = MatchOption least
    ((j : ℕ) (d : SeatView) → j < i → Agrees n rows seats (slice_index_or seats j d))
    (λ k. Any (λ s. (s.number ≡ k) × ¬ Agrees n rows seats s) seats
    × ((j : ℕ) (d : SeatView) → j < i → (slice_index_or seats j d).number < k → Agrees n rows seats (slice_index_or seats j d)))

-- one more seat that agrees
pub least_kept : (n : ℕ) (rows : List Row) (seats : List SeatView) (i : ℕ) (least : Option ℕ) → IsLeastSoFar n rows seats i least → ((d : SeatView) → Agrees n rows seats (slice_index_or seats i d)) → IsLeastSoFar n rows seats (i + 1) least
least_kept n rows seats i None before here = λ j d. below_more (λ k. Agrees n rows seats (slice_index_or seats k d)) i (λ k lt. before k d lt) (here d) j
least_kept n rows seats i (Some k) before here = (
  before.0,
  λ j d. below_more (λ m. (slice_index_or seats m d).number < k → Agrees n rows seats (slice_index_or seats m d)) i (λ m lt. before.1 m d lt) (λ _. here d) j,
)

min_is : (k number to : ℕ) → to ≡ min k number → (to ≡ k) ⊎ (to ≡ number)
min_is k number to low = grind arith

lower_any : (n : ℕ) (rows : List Row) (seats : List SeatView) (k number to i : ℕ) (s : SeatView) → Any (λ t. (t.number ≡ k) × ¬ Agrees n rows seats t) seats → i < length seats → slice_index_or seats i s ≡ s → ¬ Agrees n rows seats s → s.number ≡ number → to ≡ min k number → Any (λ t. (t.number ≡ to) × ¬ Agrees n rows seats t) seats
lower_any n rows seats k number to i s old inside here wrong is low = ⊎_elim
    (λ (e : to ≡ k). (old.0, old.1, old.2, old.3, (old.4.0 ∙ sym e, old.4.1)))
    (λ (e : to ≡ number). (i, s, inside, here, (is ∙ sym e, wrong)))
    (min_is k number to low)

-- one more seat, which does not
pub least_lowered : (n : ℕ) (rows : List Row) (seats : List SeatView) (i : ℕ) (least : Option ℕ) (s : SeatView) → IsLeastSoFar n rows seats i least → i < length seats → ((d : SeatView) → slice_index_or seats i d ≡ s) → ¬ Agrees n rows seats s → (to : ℕ) → to ≡ option_map_or (λ k. min k s.number) least s.number → IsLeastSoFar n rows seats (i + 1) (Some to)
least_lowered n rows seats i None s before inside here wrong to is = (
  (i, s, inside, here s, (sym is, wrong)),
  λ j d. below_more (λ m. (slice_index_or seats m d).number < to → Agrees n rows seats (slice_index_or seats m d)) i (λ m lt _. before m d lt) (λ under. let same : (slice_index_or seats i d).number ≡ s.number = ap (λ (t : SeatView). t.number) (here d) in absurd (omega arith)) j,
)
least_lowered n rows seats i (Some k) s before inside here wrong to is = (
  lower_any n rows seats k s.number to i s before.0 inside (here s) wrong refl is,
  λ j d. below_more (λ m. (slice_index_or seats m d).number < to → Agrees n rows seats (slice_index_or seats m d)) i (λ m lt under. before.1 m d lt (omega arith)) (λ under. let same : (slice_index_or seats i d).number ≡ s.number = ap (λ (t : SeatView). t.number) (here d) in absurd (omega arith)) j,
)

pub least_final : (n : ℕ) (rows : List Row) (seats : List SeatView) (i : ℕ) (least : Option ℕ) → IsLeastSoFar n rows seats i least → length seats ≤ i → MatchOption least (All (Agrees n rows seats) seats) (IsLeastMismatch n rows seats)
least_final n rows seats i None all past = λ j d lt. all j d (omega arith)
least_final n rows seats i (Some k) all past = record { differs = all.0; least = λ j d lt. all.1 j d (omega arith) }
