-- What holds while nodes are open, and once none is.
use Rattle.std.proofs.Common.{◌≡◌, ◌⊎◌, inl, inr, ◌<◌, ◌+◌, ℕ, zero, suc, List, [], ◌∷◌, ◌++◌, Bool, true, false, length, get_or, refl, sym, subst, ◌∙◌, arith, replicate}
use Rattle.std.specs.Prelude.{◌↔◌, Option, Some, None, MatchOption}
use Rattle.asl_lint_warnings.specs.Ways.{IsIn, Edge, Arrives, Reaches}
use Rattle.asl_lint_warnings.specs.private.Marks.{is_marked}
use Rattle.asl_lint_warnings.specs.private.Growths.{Grown}
use Rattle.asl_lint_warnings.proofs.Growing.{in_left, in_right, in_either, in_one}

pub record Searched (es : List (List ℕ)) (starts : List ℕ) (marks : List Bool) (opens : List ℕ) : Type 0 where
  pub size : length marks ≡ length es
  pub sound : (i : ℕ) → is_marked marks i ≡ true → Reaches es starts i
  pub begun : (i : ℕ) → IsIn starts i → i < length es → is_marked marks i ≡ true
  pub closed : (i j : ℕ) → is_marked marks i ≡ true → Edge es i j → j < length es → IsIn opens i ⊎ (is_marked marks j ≡ true)
  pub reached : (i : ℕ) → IsIn opens i → is_marked marks i ≡ true

unmarked : (n i : ℕ) → is_marked (replicate n false) i ≡ true → ⊥
unmarked zero i h = cc
unmarked (suc n) zero h = cc
unmarked (suc n) (suc i) h = unmarked n i h

pub begin : (es : List (List ℕ)) (starts : List ℕ) (a b : List Bool) (q : List ℕ) (n : ℕ) → n ≡ length es → a ≡ replicate n false → length a ≡ n → Grown a [] starts b q → Searched es starts b q
begin es starts a b q n many is size g =
    let none : (i : ℕ) → is_marked a i ≡ true → ⊥ = λ i h. unmarked n i (subst (λ (x : List Bool). is_marked x i ≡ true) is h) in
    record {
      size = g.size ∙ size ∙ many;
      sound = λ i m. elim (g.fresh i m) as (λ _. Reaches es starts i) [ inl o ↦ absurd (none i o) | inr o ↦ (zero, o.0) ];
      begun = λ i h lt. g.each i h (subst (λ (k : ℕ). i < k) (sym (size ∙ many)) lt);
      closed = λ i j m e lt. elim (g.fresh i m) as (λ _. IsIn q i ⊎ (is_marked b j ≡ true)) [ inl o ↦ absurd (none i o) | inr o ↦ inl o.1 ];
      reached = λ i h. elim (g.opened i h) as (λ _. is_marked b i ≡ true) [ inl o ↦ absurd o | inr o ↦ o ];
    }

pub go_on : (es : List (List ℕ)) (starts : List ℕ) (a b : List Bool) (p q : List ℕ) (x : ℕ) → Searched es starts a (p ++ x ∷ []) → Grown a p (get_or es x []) b q → Searched es starts b q
go_on es starts a b p q x s g =
    let last : is_marked a x ≡ true = s.reached x (in_right p (x ∷ []) x (inl refl)) in
    record {
      size = g.size ∙ s.size;
      sound = λ i m. elim (g.fresh i m) as (λ _. Reaches es starts i) [
        | inl o ↦ s.sound i o
        | inr o ↦ let r = s.sound x last in (suc r.0, (x, r.1, o.0))
      ];
      begun = λ i h lt. g.kept i (s.begun i h lt);
      closed = λ i j m e lt. elim (g.fresh i m) as (λ _. IsIn q i ⊎ (is_marked b j ≡ true)) [
        | inl o ↦ elim (s.closed i j o e lt) as (λ _. IsIn q i ⊎ (is_marked b j ≡ true)) [
          | inl w ↦ elim (in_either p (x ∷ []) i w) as (λ _. IsIn q i ⊎ (is_marked b j ≡ true)) [
            | inl l ↦ inl (g.stays i l)
            | inr l ↦ inr (g.each j (subst (λ (k : ℕ). Edge es k j) (in_one x i l) e) (subst (λ (k : ℕ). j < k) (sym s.size) lt))
          ]
          | inr w ↦ inr (g.kept j w)
        ]
        | inr o ↦ inl o.1
      ];
      reached = λ i h. elim (g.opened i h) as (λ _. is_marked b i ≡ true) [ inl o ↦ g.kept i (s.reached i (in_left p (x ∷ []) i o)) | inr o ↦ o ];
    }

pub edge_from : (es : List (List ℕ)) (i j : ℕ) → Edge es i j → i < length es
edge_from [] i j e = absurd e
edge_from (x ∷ xs) zero j e = omega arith
edge_from (x ∷ xs) (suc i) j e = let h = edge_from xs i j e in omega (arith, h)

complete : (es : List (List ℕ)) (starts : List ℕ) (marks : List Bool) → Searched es starts marks [] → (n i : ℕ) → i < length es → Arrives es starts n i → is_marked marks i ≡ true
complete es starts marks s zero i lt h = s.begun i h lt
complete es starts marks s (suc n) j lt h =
    let m = complete es starts marks s n h.0 (edge_from es h.0 j h.2) h.1 in
    elim (s.closed h.0 j m h.2 lt) as (λ _. is_marked marks j ≡ true) [ inl o ↦ absurd o | inr o ↦ o ]

pub finish : (es : List (List ℕ)) (starts : List ℕ) (marks : List Bool) → Searched es starts marks [] → (i : ℕ) → i < length es → (is_marked marks i ≡ true ↔ Reaches es starts i)
finish es starts marks s i lt = (λ m. s.sound i m, λ r. complete es starts marks s r.0 i lt r.1)

-- nothing was taken, so nothing is open
pub emptied : (o : Option ℕ) (old : List ℕ) (n m : ℕ) → n ≡ length old → ((x : ℕ) → o ≡ Some x → ⊥) → MatchOption o ((n ≡ 0) × (m ≡ 0)) (λ _. m + 1 ≡ n) → old ≡ []
emptied (Some x) old n m is never h = absurd (never x refl)
emptied None [] n m is never h = refl
emptied None (y ∷ ys) n m is never h = let z = h.0 in absurd (omega (arith, z, is))
