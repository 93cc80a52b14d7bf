-- Numbers that texts spell, within bounds.
use Rattle.std.proofs.Common.{◌≡◌, ◌<◌, ◌≤◌, ℕ, Bool, List, true, false, sym, arith, refl, subst, true≢false}
use Rattle.std.specs.Prelude.{Result, Ok, Err, Some, None, if◌then◌else◌, ◌^◌, ◌&&◌, nat_lt, [], ◌∷◌}
use Rattle.std.specs.Char.{digit_value}
use Rattle.std.specs.List.{list_all}
use Rattle.std.specs.Str.Parse.{AllDigits, IsNumeral, ParsesUnsigned, digits_value, without_leading_plus}
use Rattle.std.proofs.lemmas.Bool.{ltb-true, leb-true, lt-ltb, le-leb}
use Rattle.asl_words.specs.Asked.{is_unsigned_in, number_in}

abbrev value : List ℕ → ℕ
value t = digits_value 10 (without_leading_plus t)

both : (a b : Bool) → (a && b) ≡ true → (a ≡ true) × (b ≡ true)
both true b e = (refl, e)
both false b e = absurd (true≢false (sym e))

digits_from : (ds : List ℕ) → list_all (λ d. nat_lt (digit_value d) 10) ds ≡ true → AllDigits 10 ds
digits_from [] e = tt
digits_from (d ∷ ds) e =
    let parts = both _ _ e in
    (ltb-true _ _ parts.0, digits_from ds parts.1)

digits_back : (ds : List ℕ) → AllDigits 10 ds → list_all (λ d. nat_lt (digit_value d) 10) ds ≡ true
digits_back [] h = refl
digits_back (d ∷ ds) h = rw (lt-ltb (digit_value d) 10 h.0) (digits_back ds h.1)

-- a numeral within the bounds
record IsWithin (least greatest : ℕ) (t : List ℕ) : Type 0 where
  numeral : IsNumeral 10 (without_leading_plus t)
  fits : value t < 2 ^ 64
  low : least ≤ value t
  high : value t ≤ greatest

within : (least greatest : ℕ) (t : List ℕ) → is_unsigned_in least greatest t ≡ true → IsWithin least greatest t
within least greatest t e =
    let a = both _ _ e in
    let numeral = both _ _ a.0 in
    let b = both _ _ a.1 in
    let c = both _ _ b.1 in
    record {
      numeral = (ltb-true _ _ numeral.0, digits_from _ numeral.1);
      fits = ltb-true _ _ b.0;
      low = leb-true _ _ c.0;
      high = leb-true _ _ c.1;
    }

-- what stands in the bounds is the number
number_there : (least greatest : ℕ) (t : List ℕ) → IsWithin least greatest t → Some (value t) ≡ number_in least greatest t
unfolding number_in
number_there least greatest t w =
    rw (lt-ltb _ _ w.numeral.0, digits_back _ w.numeral.1, lt-ltb _ _ w.fits, le-leb _ _ w.low, le-leb _ _ w.high) refl

-- and nothing else is
no_number : (least greatest : ℕ) (t : List ℕ) → (IsWithin least greatest t → ⊥) → None ≡ number_in least greatest t
unfolding number_in
no_number least greatest t not = by_test (is_unsigned_in least greatest t) refl
  where
    by_test : (b : Bool) → is_unsigned_in least greatest t ≡ b → None ≡ (if b then Some (value t) else None)
    by_test true e = absurd (not (within least greatest t e))
    by_test false e = refl

module _ {E : Type 0} (least greatest : ℕ) (t : List ℕ) (r : Result ℕ E) (h : ParsesUnsigned 64 10 t r) where
  read : (n : ℕ) → r ≡ Ok n → (IsNumeral 10 (without_leading_plus t) × (value t < 2 ^ 64)) × (n ≡ value t)
  read n is = subst (λ q. ParsesUnsigned 64 10 t q) is h

  pub in_bounds : (n : ℕ) → r ≡ Ok n → least ≤ n → n ≤ greatest → Some n ≡ number_in least greatest t
  in_bounds n is low high =
      let e = (read n is).1 in
      subst (λ m. Some m ≡ number_in least greatest t) (sym e)
      (number_there least greatest t (record {
        numeral = (read n is).0.0;
        fits = (read n is).0.1;
        low = subst (λ m. least ≤ m) e low;
        high = subst (λ m. m ≤ greatest) e high;
      }))

  pub below : (n : ℕ) → r ≡ Ok n → n < least → None ≡ number_in least greatest t
  below n is low = no_number least greatest t (λ a. let l = a.low in let e = (read n is).1 in absurd (omega arith))

  pub above : (n : ℕ) → r ≡ Ok n → greatest < n → None ≡ number_in least greatest t
  above n is high = no_number least greatest t (λ a. let l = a.high in let e = (read n is).1 in absurd (omega arith))

  pub unread : (e : E) → r ≡ Err e → None ≡ number_in least greatest t
  unread e is =
      let not : (IsNumeral 10 (without_leading_plus t) × (value t < 2 ^ 64)) → ⊥ = subst (λ q. ParsesUnsigned 64 10 t q) is h in
      no_number least greatest t (λ a. not (a.numeral, a.fits))

-- a number of 64 bits
pub whole_word : {E : Type 0} (t : List ℕ) (r : Result ℕ E) (h : ParsesUnsigned 64 10 t r) (n : ℕ) → r ≡ Ok n → Some n ≡ number_in 0 18446744073709551615 t
whole_word t r h n is =
    let e = read 0 0 t r h n is in
    let fits : n < 18446744073709551616 = subst (λ m. m < 18446744073709551616) (sym e.1) e.0.1 in
    in_bounds 0 18446744073709551615 t r h n is (omega arith) (omega arith)
