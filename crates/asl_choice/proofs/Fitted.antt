-- The truth value says whether a text fits.
use Rattle.std.proofs.Common.{◌≡◌, ℕ, List, [], ◌∷◌, ◌++◌, Bool, true, false, refl, sym, ap, eqb-true, eq-eqb}
use Rattle.std.specs.Prelude.{nat_eq, ◌↔◌, IsTrue}
use Rattle.std.specs.Cmp.{both_ways}
use Rattle.asl_choice.specs.declared.pattern.Token.{Token}
use Rattle.asl_choice.specs.declared.pattern.Token.TheVariants.{Byte, Star, OpenEscape}
use Rattle.asl_choice.specs.Patterns.{Fits, fits, some_end}

record HasEnd (p : List ℕ → Bool) (t : List ℕ) : Type 0 where
  front : List ℕ
  rest : List ℕ
  parts : t ≡ front ++ rest
  passes : p rest ≡ true

some_end_is : (p : List ℕ → Bool) (t : List ℕ) → some_end p t ≡ true → HasEnd p t
some_end_is p [] e = record { front = []; rest = []; parts = refl; passes = e }
some_end_is p (c ∷ cs) e = by (p (c ∷ cs)) refl (some_end_is p cs)
  where
    by : (b : Bool) → p (c ∷ cs) ≡ b → (some_end p cs ≡ true → HasEnd p cs) → HasEnd p (c ∷ cs)
    by true q rest = record { front = []; rest = c ∷ cs; parts = refl; passes = q }
    by false q rest =
        let h = rest (rw q at e) in
        record { front = c ∷ h.front; rest = h.rest; parts = ap (λ (x : List ℕ). c ∷ x) h.parts; passes = h.passes }

is_some_end : (p : List ℕ → Bool) (front rest : List ℕ) → p rest ≡ true → some_end p (front ++ rest) ≡ true
is_some_end p [] [] e = e
is_some_end p [] (c ∷ cs) e = rw e refl
is_some_end p (f ∷ fs) rest e = by (p (f ∷ (fs ++ rest))) refl (is_some_end p fs rest e)
  where
    by : (b : Bool) → p (f ∷ (fs ++ rest)) ≡ b → some_end p (fs ++ rest) ≡ true → some_end p (f ∷ (fs ++ rest)) ≡ true
    by true q h = rw q refl
    by false q h = rw q h

pub fits_is : (ts : List Token) (t : List ℕ) → fits ts t ≡ true → Fits ts t
fits_is [] [] e = refl
fits_is [] (c ∷ cs) e = absurd cc
fits_is (Byte b ∷ ts) [] e = absurd cc
fits_is (Byte b ∷ ts) (c ∷ cs) e = by (nat_eq b c) refl (fits_is ts cs)
  where
    by : (same : Bool) → nat_eq b c ≡ same → (fits ts cs ≡ true → Fits ts cs) → Fits (Byte b ∷ ts) (c ∷ cs)
    by true q rest = (cs, ap (λ (x : ℕ). x ∷ cs) (sym (eqb-true b c q)), rest (rw q at e))
    by false q rest = absurd (let x = rw q at e in cc)
fits_is (Star ∷ ts) t e =
    let h = some_end_is (fits ts) t e in
    (h.front, h.rest, h.parts, fits_is ts h.rest h.passes)
fits_is (OpenEscape ∷ ts) t e = absurd cc

pub is_fits : (ts : List Token) (t : List ℕ) → Fits ts t → fits ts t ≡ true
is_fits [] t h = rw h refl
is_fits (Byte b ∷ ts) t h =
    let same : nat_eq b b ≡ true = eq-eqb b b refl in
    let e = h.1 in
    rw e (rw same (is_fits ts h.0 h.2))
is_fits (Star ∷ ts) t h = let e = h.2 in rw e (is_some_end (fits ts) h.0 h.1 (is_fits ts h.1 h.3))
is_fits (OpenEscape ∷ ts) t h = absurd h

pub fitted : (ts : List Token) (t : List ℕ) (b : Bool) → (IsTrue b ↔ Fits ts t) → b ≡ fits ts t
fitted ts t b h = both_ways b (fits ts t) (λ e. is_fits ts t (h.0 e)) (λ e. h.1 (fits_is ts t e))
