-- Marking nodes one after another.
use Rattle.std.proofs.Common.{◌≡◌, ◌⊎◌, inl, inr, ◌≢◌, ◌<◌, ℕ, zero, suc, List, [], ◌∷◌, ◌++◌, Bool, true, false, length, set, refl, sym, ap, subst, ◌∙◌, arith, get_or-set_same, get_or-set_other}
use Rattle.std.proofs.lemmas.List.{length-set}
use Rattle.asl_lint_warnings.specs.Ways.{IsIn}
use Rattle.asl_lint_warnings.specs.private.Marks.{is_marked}
use Rattle.asl_lint_warnings.specs.private.Growths.{unmarked, Grown}

pub in_left : (xs ys : List ℕ) (i : ℕ) → IsIn xs i → IsIn (xs ++ ys) i
in_left [] ys i h = absurd h
in_left (x ∷ xs) ys i (inl e) = inl e
in_left (x ∷ xs) ys i (inr h) = inr (in_left xs ys i h)

pub in_right : (xs ys : List ℕ) (i : ℕ) → IsIn ys i → IsIn (xs ++ ys) i
in_right [] ys i h = h
in_right (x ∷ xs) ys i h = inr (in_right xs ys i h)

pub in_either : (xs ys : List ℕ) (i : ℕ) → IsIn (xs ++ ys) i → IsIn xs i ⊎ IsIn ys i
in_either [] ys i h = inr h
in_either (x ∷ xs) ys i (inl e) = inl (inl e)
in_either (x ∷ xs) ys i (inr h) =
    elim (in_either xs ys i h) as (λ _. IsIn (x ∷ xs) i ⊎ IsIn ys i) [ inl l ↦ inl (inr l) | inr r ↦ inr r ]

pub in_one : (x i : ℕ) → IsIn (x ∷ []) i → i ≡ x
in_one x i (inl e) = e
in_one x i (inr h) = absurd h

length_more : (xs : List ℕ) (x : ℕ) → length (xs ++ x ∷ []) ≡ suc (length xs)
length_more [] x = refl
length_more (y ∷ ys) x = ap suc (length_more ys x)

unmarked-set : (a : List Bool) (x : ℕ) → x < length a → is_marked a x ≡ false → suc (unmarked (set a x true)) ≡ unmarked a
unmarked-set [] x lt un = absurd (omega arith)
unmarked-set (true ∷ bs) zero lt un = absurd (cc)
unmarked-set (false ∷ bs) zero lt un = refl
unmarked-set (true ∷ bs) (suc x) lt un = unmarked-set bs x (omega arith) un
unmarked-set (false ∷ bs) (suc x) lt un = ap suc (unmarked-set bs x (omega arith) un)

pub same_or_not : (i x : ℕ) → (i ≡ x) ⊎ (i ≢ x)
same_or_not zero zero = inl refl
same_or_not zero (suc x) = inr (λ e. omega arith)
same_or_not (suc i) zero = inr (λ e. omega arith)
same_or_not (suc i) (suc x) =
    elim (same_or_not i x) as (λ _. (suc i ≡ suc x) ⊎ (suc i ≢ suc x)) [ inl e ↦ inl (ap suc e) | inr n ↦ inr (λ e. let f : i ≡ x = omega arith in n f) ]

set_mark : (a : List Bool) (x : ℕ) → x < length a → (i : ℕ) → (is_marked (set a x true) i ≡ true) × (i ≡ x) ⊎ (is_marked (set a x true) i ≡ is_marked a i)
set_mark a x lt i =
    elim (same_or_not i x) as (λ _. (is_marked (set a x true) i ≡ true) × (i ≡ x) ⊎ (is_marked (set a x true) i ≡ is_marked a i)) [
      | inl e ↦ inl (subst (λ (k : ℕ). is_marked (set a x true) k ≡ true) (sym e) (get_or-set_same a x true false lt), e)
      | inr n ↦ inr (get_or-set_other a x i true false n)
    ]

-- where a node is marked already, or is none
pub unchanged : (a : List Bool) (p : List ℕ) (x : ℕ) → (x < length a → is_marked a x ≡ true) → Grown a p (x ∷ []) a p
unchanged a p x was =
    record {
      size = refl;
      kept = λ i h. h;
      fresh = λ i h. inl h;
      opened = λ i h. inl h;
      stays = λ i h. h;
      each = λ i h lt. let e = in_one x i h in subst (λ (k : ℕ). is_marked a k ≡ true) (sym e) (was (subst (λ (k : ℕ). k < length a) e lt));
      falls = omega arith;
    }

pub marked : (a : List Bool) (p : List ℕ) (x : ℕ) → x < length a → is_marked a x ≡ false → Grown a p (x ∷ []) (set a x true) (p ++ x ∷ [])
marked a p x lt un =
    record {
      size = length-set a x true;
      kept = λ i h. elim (set_mark a x lt i) as (λ _. is_marked (set a x true) i ≡ true) [ inl t ↦ t.0 | inr e ↦ e ∙ h ];
      fresh = λ i h. elim (set_mark a x lt i) as (λ _. (is_marked a i ≡ true) ⊎ (IsIn (x ∷ []) i × IsIn (p ++ x ∷ []) i)) [ inl t ↦ inr (inl t.1, in_right p (x ∷ []) i (inl t.1)) | inr e ↦ inl (sym e ∙ h) ];
      opened = λ i h. elim (in_either p (x ∷ []) i h) as (λ _. IsIn p i ⊎ (is_marked (set a x true) i ≡ true)) [
        | inl l ↦ inl l
        | inr r ↦ inr (subst (λ (k : ℕ). is_marked (set a x true) k ≡ true) (sym (in_one x i r)) (get_or-set_same a x true false lt))
      ];
      stays = λ i h. in_left p (x ∷ []) i h;
      each = λ i h less. subst (λ (k : ℕ). is_marked (set a x true) k ≡ true) (sym (in_one x i h)) (get_or-set_same a x true false lt);
      falls = let u = unmarked-set a x lt un in let l = length_more p x in omega (arith, u, l);
    }

pub none : (a : List Bool) (p : List ℕ) → Grown a p [] a p
none a p =
    record {
      size = refl;
      kept = λ i h. h;
      fresh = λ i h. inl h;
      opened = λ i h. inl h;
      stays = λ i h. h;
      each = λ i h lt. absurd h;
      falls = omega arith;
    }

pub more : (a b c : List Bool) (p q r ns ms : List ℕ) → Grown a p ns b q → Grown b q ms c r → Grown a p (ns ++ ms) c r
more a b c p q r ns ms g h =
    record {
      size = h.size ∙ g.size;
      kept = λ i m. h.kept i (g.kept i m);
      fresh = λ i m. elim (h.fresh i m) as (λ _. (is_marked a i ≡ true) ⊎ (IsIn (ns ++ ms) i × IsIn r i)) [
        | inl n ↦ elim (g.fresh i n) as (λ _. (is_marked a i ≡ true) ⊎ (IsIn (ns ++ ms) i × IsIn r i)) [
          | inl o ↦ inl o
          | inr o ↦ inr (in_left ns ms i o.0, h.stays i o.1)
        ]
        | inr n ↦ inr (in_right ns ms i n.0, n.1)
      ];
      opened = λ i m. elim (h.opened i m) as (λ _. IsIn p i ⊎ (is_marked c i ≡ true)) [
        | inl n ↦ elim (g.opened i n) as (λ _. IsIn p i ⊎ (is_marked c i ≡ true)) [ inl o ↦ inl o | inr o ↦ inr (h.kept i o) ]
        | inr n ↦ inr n
      ];
      stays = λ i m. h.stays i (g.stays i m);
      each = λ i m lt. elim (in_either ns ms i m) as (λ _. is_marked c i ≡ true) [
        | inl l ↦ h.kept i (g.each i l lt)
        | inr l ↦ h.each i l (subst (λ (n : ℕ). i < n) (sym g.size) lt)
      ];
      falls = let x = g.falls in let y = h.falls in omega (arith, x, y);
    }
