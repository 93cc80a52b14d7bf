-- Answers in the order of their numbers, by number.
use Rattle.std.proofs.Common.{◌≡◌, ◌<◌, ◌≤◌, ◌-◌, ℕ, zero, suc, List, [], ◌∷◌, Bool, true, false, length, get_or, refl, sym, ap, subst, ◌∙◌, arith}
use Rattle.std.specs.Prelude.{nat_lt, ◌||◌, Option, Some, None, if◌then◌else◌}
use Rattle.std.specs.List.{list_any, insert}
use Rattle.std.specs.List.Sorted.{IsNonDecreasingBy}
use Rattle.std.proofs.lemmas.Bool.Decides.{nat_tests}
use Rattle.std.proofs.lemmas.List.{get_or_default}
use Rattle.asl_json_data.specs.Data.{Data}
use Rattle.asl_mock.specs.Answers.{placed, with_answer, answer_of, has_number, first_with}
use Rattle.asl_mock.specs.Faults.{have_a_number}
use Rattle.asl_mock.specs.private.Apart.{EachRanged, AreApart, Meets, IsGap, any_has}
use Rattle.asl_mock.specs.declared.key.Span.{Span}
use Rattle.asl_mock.specs.declared.response.Answer.{Answer}
use Rattle.asl_mock.specs.declared.response.Ranged.{Ranged}

pub each_at : (P : Ranged → Type 0) (rs : List Ranged) (i : ℕ) (d : Ranged) → EachRanged P rs → i < length rs → P (get_or rs i d)
each_at P [] i d h lt = absurd (omega (arith, lt))
each_at P (r ∷ rs) zero d h lt = h.0
each_at P (r ∷ rs) (suc i) d h lt = each_at P rs i d h.1 (omega (arith, lt))

each_from : (P : Ranged → Type 0) (rs : List Ranged) → ((k : ℕ) (d : Ranged) → k < length rs → P (get_or rs k d)) → EachRanged P rs
each_from P [] h = tt
each_from P (r ∷ rs) h = (h 0 r (omega arith), each_from P rs (λ k d lt. h (suc k) d (omega (arith, lt))))

each_insert : (P : Ranged → Type 0) (rs : List Ranged) (i : ℕ) (r : Ranged) → EachRanged P rs → P r → EachRanged P (insert rs i r)
each_insert P rs zero r h p = (p, h)
each_insert P [] (suc i) r h p = (p, tt)
each_insert P (x ∷ rs) (suc i) r h p = (h.0, each_insert P rs i r h.1 p)

pub in_order : (rs : List Ranged) (i : ℕ) (d : Ranged) → AreApart rs → i < length rs → (get_or rs i d).span.low ≤ (get_or rs i d).span.high
in_order [] i d h lt = absurd (omega (arith, lt))
in_order (r ∷ rs) zero d h lt = h.0
in_order (r ∷ rs) (suc i) d h lt = in_order rs i d h.1.1 (omega (arith, lt))

pub far_apart : (rs : List Ranged) (i j : ℕ) (d : Ranged) → AreApart rs → i < j → j < length rs → (get_or rs i d).span.high < (get_or rs j d).span.low
far_apart [] i j d h lt l = absurd (omega (arith, l))
far_apart (r ∷ rs) i zero d h lt l = absurd (omega (arith, lt))
far_apart (r ∷ rs) zero (suc j) d h lt l = each_at (λ (x : Ranged). r.span.high < x.span.low) rs j d h.1.0 (omega (arith, l))
far_apart (r ∷ rs) (suc i) (suc j) d h lt l = far_apart rs i j d h.1.1 (omega (arith, lt)) (omega (arith, l))

pub lows_rise : (rs : List Ranged) → AreApart rs → IsNonDecreasingBy (λ (r : Ranged). r.span.low) rs
lows_rise [] h = λ i j d le lt. absurd (omega (arith, lt))
lows_rise (r ∷ rs) h = steps (lows_rise rs h.1.1)
  where
    steps : IsNonDecreasingBy (λ (x : Ranged). x.span.low) rs → (i j : ℕ) (d : Ranged) → i ≤ j → j < length (r ∷ rs) → (get_or (r ∷ rs) i d).span.low ≤ (get_or (r ∷ rs) j d).span.low
    steps rise zero zero d le lt = omega arith
    steps rise zero (suc j) d le lt = let a = h.0 in let b = each_at (λ (x : Ranged). r.span.high < x.span.low) rs j d h.1.0 (omega (arith, lt)) in omega (arith, a, b)
    steps rise (suc i) zero d le lt = absurd (omega (arith, le))
    steps rise (suc i) (suc j) d le lt = rise i j d (omega (arith, le)) (omega (arith, lt))

-- where begun ones end

pub gap_there : (s : Span) (rs : List Ranged) (i : ℕ) → AreApart rs → i ≤ length rs → ((k : ℕ) (d : Ranged) → i ≤ k → k < length rs → s.high < (get_or rs k d).span.low) → (x : Ranged) → 0 < i → (get_or rs (i - 1) x).span.high < s.low → IsGap s rs i
gap_there s rs i h le above x some under = record { within = le; below = λ k d lt. below k d lt; above = above }
  where
    last : (d : Ranged) → (get_or rs (i - 1) d).span.high < s.low
    last d = subst (λ (y : Ranged). y.span.high < s.low) (get_or_default rs (i - 1) x d (omega (arith, le, some))) under

    below : (k : ℕ) (d : Ranged) → k < i → (get_or rs k d).span.high < s.low
    below k d lt = which (nat_lt k (i - 1)) refl
      where
        which : (b : Bool) → nat_lt k (i - 1) ≡ b → (get_or rs k d).span.high < s.low
        which true e =
            let far = far_apart rs k (i - 1) d h (grind (arith, nat_tests, e)) (omega (arith, lt, le)) in
            let order = in_order rs (i - 1) d h (omega (arith, lt, le)) in
            let end = last d in
            omega (arith, far, order, end)
        which false e =
            let same : k ≡ i - 1 = grind (arith, nat_tests, e, lt) in
            subst (λ (n : ℕ). (get_or rs n d).span.high < s.low) (sym same) (last d)

-- an answer in its gap

pub placed_there : (r : Ranged) (rs : List Ranged) (i : ℕ) → i ≤ length rs → ((k : ℕ) (d : Ranged) → k < i → (get_or rs k d).span.low ≤ r.span.low) → ((k : ℕ) (d : Ranged) → i ≤ k → k < length rs → r.span.low < (get_or rs k d).span.low) → insert rs i r ≡ placed r rs
placed_there r [] zero le below above = refl
placed_there r [] (suc i) le below above = absurd (omega (arith, le))
placed_there r (x ∷ rs) zero le below above =
    let first = above 0 x (omega arith) (omega arith) in
    let test : nat_lt r.span.low x.span.low ≡ true = grind (arith, nat_tests, first) in
    ap (λ (b : Bool). if b then r ∷ x ∷ rs else x ∷ placed r rs) (sym test)
placed_there r (x ∷ rs) (suc i) le below above =
    let first = below 0 x (omega arith) in
    let test : nat_lt r.span.low x.span.low ≡ false = grind (arith, nat_tests, first) in
    let more = placed_there r rs i (omega (arith, le)) (λ k d lt. below (suc k) d (omega (arith, lt))) (λ k d l lt. above (suc k) d (omega (arith, l)) (omega (arith, lt))) in
    ap (λ (ys : List Ranged). x ∷ ys) more ∙ ap (λ (b : Bool). if b then r ∷ x ∷ rs else x ∷ placed r rs) (sym test)

pub apart_there : (r : Ranged) (rs : List Ranged) (i : ℕ) → AreApart rs → i ≤ length rs → r.span.low ≤ r.span.high → ((k : ℕ) (d : Ranged) → k < i → (get_or rs k d).span.high < r.span.low) → ((k : ℕ) (d : Ranged) → i ≤ k → k < length rs → r.span.high < (get_or rs k d).span.low) → AreApart (insert rs i r)
apart_there r rs zero h le order below above = (order, (each_from (λ (x : Ranged). r.span.high < x.span.low) rs (λ k d lt. above k d (omega arith) lt), h))
apart_there r [] (suc i) h le order below above = absurd (omega (arith, le))
apart_there r (x ∷ rs) (suc i) h le order below above = (
  h.0,
  (
    each_insert (λ (y : Ranged). x.span.high < y.span.low) rs i r h.1.0 (below 0 x (omega arith)),
    apart_there r rs i h.1.1 (omega (arith, le)) order (λ k d lt. below (suc k) d (omega (arith, lt))) (λ k d l lt. above (suc k) d (omega (arith, l)) (omega (arith, lt))),
  ),
)

pub none_has : (s : Span) (rs : List Ranged) → ((k : ℕ) (d : Ranged) → k < length rs → have_a_number s (get_or rs k d).span ≡ false) → any_has (Some s) rs ≡ false
none_has s [] h = refl
none_has s (r ∷ rs) h = ap (λ (b : Bool). b || list_any (λ (x : Ranged). have_a_number s x.span) rs) (h 0 r (omega arith)) ∙ none_has s rs (λ k d lt. h (suc k) d (omega (arith, lt)))

pub one_has : (s : Span) (rs : List Ranged) (i : ℕ) → i < length rs → ((d : Ranged) → have_a_number s (get_or rs i d).span ≡ true) → any_has (Some s) rs ≡ true
one_has s [] i lt h = absurd (omega (arith, lt))
one_has s (r ∷ rs) zero lt h = ap (λ (b : Bool). b || list_any (λ (x : Ranged). have_a_number s x.span) rs) (h r)
one_has s (r ∷ rs) (suc i) lt h = right (have_a_number s r.span) (one_has s rs i (omega (arith, lt)) h)
  where
    right : (b : Bool) → any_has (Some s) rs ≡ true → (b || any_has (Some s) rs) ≡ true
    right true e = refl
    right false e = e

pub gap_has_none : (s : Span) (rs : List Ranged) (i : ℕ) → AreApart rs → IsGap s rs i → any_has (Some s) rs ≡ false
gap_has_none s rs i h g = none_has s rs none
  where
    none : (k : ℕ) (d : Ranged) → k < length rs → have_a_number s (get_or rs k d).span ≡ false
    none k d lt = which (nat_lt k i) refl
      where
        which : (b : Bool) → nat_lt k i ≡ b → have_a_number s (get_or rs k d).span ≡ false
        which true e = let under = g.below k d (grind (arith, nat_tests, e)) in grind (arith, nat_tests, under)
        which false e = let over = g.above k d (grind (arith, nat_tests, e)) lt in grind (arith, nat_tests, over)

pub met_has_one : (s : Span) (rs : List Ranged) (i : ℕ) → Meets s rs i → any_has (Some s) rs ≡ true
met_has_one s rs i m = one_has s rs i m.within (λ d. let a = m.low d in let b = m.high d in grind (arith, nat_tests, a, b))

pub first_there : (n : ℕ) (rs : List Ranged) (i : ℕ) (d : Ranged) → AreApart rs → i < length rs → ((e : Ranged) → (get_or rs i e).span.low ≤ n) → ((e : Ranged) → n ≤ (get_or rs i e).span.high) → first_with n rs ≡ Some (get_or rs i d).answer
first_there n [] i d h lt low high = absurd (omega (arith, lt))
first_there n (r ∷ rs) zero d h lt low high =
    let a = low r in
    let b = high r in
    let test : has_number n r ≡ true = grind (arith, nat_tests, a, b) in
    ap (λ (b : Bool). if b then Some r.answer else first_with n rs) test
first_there n (r ∷ rs) (suc i) d h lt low high =
    let a = low r in
    let b = each_at (λ (x : Ranged). r.span.high < x.span.low) rs i r h.1.0 (omega (arith, lt)) in
    let test : has_number n r ≡ false = grind (arith, nat_tests, a, b) in
    ap (λ (b : Bool). if b then Some r.answer else first_with n rs) test ∙ first_there n rs i d h.1.1 (omega (arith, lt)) low high

none_with : (n : ℕ) (rs : List Ranged) → ((k : ℕ) (d : Ranged) → k < length rs → has_number n (get_or rs k d) ≡ false) → first_with n rs ≡ None
none_with n [] h = refl
none_with n (r ∷ rs) h = ap (λ (b : Bool). if b then Some r.answer else first_with n rs) (h 0 r (omega arith)) ∙ none_with n rs (λ k d lt. h (suc k) d (omega (arith, lt)))

pub gap_with_none : (n : ℕ) (rs : List Ranged) (i : ℕ) → IsGap (record { low = n; high = n }) rs i → first_with n rs ≡ None
gap_with_none n rs i g = none_with n rs none
  where
    none : (k : ℕ) (d : Ranged) → k < length rs → has_number n (get_or rs k d) ≡ false
    none k d lt = which (nat_lt k i) refl
      where
        which : (b : Bool) → nat_lt k i ≡ b → has_number n (get_or rs k d) ≡ false
        which true e = let under = g.below k d (grind (arith, nat_tests, e)) in grind (arith, nat_tests, under)
        which false e = let over = g.above k d (grind (arith, nat_tests, e)) lt in grind (arith, nat_tests, over)

-- one answer more

pub more_there : (o : Option Span) (s : Span) (d : Data) (a : Answer) (rs seen new : List Ranged) (i : ℕ) → o ≡ Some s → seen ≡ rs → AreApart rs → s.low ≤ s.high → IsGap s seen i → a ≡ answer_of d → new ≡ insert rs i (record { span = s; answer = a }) → (new ≡ with_answer o d rs) × (AreApart new × (any_has o rs ≡ false))
more_there o s d a rs seen new i is same h order gap answer all =
    let g : IsGap s rs i = subst (λ (x : List Ranged). IsGap s x i) same gap in
    let r : Ranged = record { span = s; answer = a } in
    let place : insert rs i r ≡ placed r rs = placed_there r rs i g.within (λ k d lt. let b = g.below k d lt in let w = in_order rs k d h (omega (arith, lt, g.within)) in omega (arith, b, w)) (λ k d l lt. let b = g.above k d l lt in omega (arith, b, order)) in (
      all ∙ place ∙ ap (λ (x : Answer). placed (record { span = s; answer = x }) rs) answer ∙ ap (λ (x : Option Span). with_answer x d rs) (sym is),
      (
        subst AreApart (sym all) (apart_there r rs i h g.within order (λ k d lt. g.below k d lt) (λ k d l lt. g.above k d l lt)),
        ap (λ (x : Option Span). any_has x rs) is ∙ gap_has_none s rs i h g,
      ),
    )
