-- What the digits of a number mean, and where they stand in it.
use Rattle.std.proofs.Common.{◌≡◌, ℕ, zero, suc, ◌+◌, ◌-◌, ◌*◌, ◌^◌, ◌%◌, ◌≤◌, ◌<◌, Bool, true, false, cond, ◌==◌, List, [], ◌∷◌, ◌++◌, length, get_or, take, drop, Option, Some, None, refl, sym, ap, subst, ◌∙◌, add-one, arith, IsAscii}
use Rattle.std.proofs.lemmas.List.{append-nil, length-append, length-take-le}
use Rattle.std.proofs.Math.Nat.{mul_comm, mul_assoc, pow-suc}
use Rattle.std.proofs.lemmas.Str.{IsUtf8-from_ascii}
use Rattle.std.proofs.lemmas.Str.Ascii.{IsAscii-nil}
use Rattle.std.specs.Str.{IsUtf8}
use Rattle.asl_json_data.specs.Number.{is_digit, is_point, is_mark, is_sign, AreDigits, IsDigits, magnitude, unsigned, IsInt, IsFrac, IsExp, IsNumeral, before, behind, significand, integer, fraction, digits_value}
use Rattle.asl_json_data.specs.private.Places.{AreZeros, EndsAboveZero, IsStripped}
use Rattle.asl_json_data.specs.private.NumberParts.{leading, marked, pointed, next_part, part_behind}
use Rattle.asl_json_data.specs.declared.part.Part.{Part}
use Rattle.asl_json_data.specs.declared.part.Part.TheVariants.{Start, Minus, Nought, Whole, Point, Fraction, Mark, Sign, Exponent}
use Rattle.asl_json_data.proofs.Numerals.{part_none, numeral_accepted, digit_no_point, digit_no_mark, point_no_mark}

-- ---- what digits mean

pub digits_grow : (n : ℕ) (ds : List ℕ) → n ≤ digits_value n ds
digits_grow n [] = omega arith
digits_grow n (d ∷ ds) = omega (arith, digits_grow (n * 10 + (d - 48)) ds)

pub digit_small : (c : ℕ) → is_digit c ≡ true → (48 ≤ c) × (c ≤ 57)
unfolding is_digit
digit_small c e = (grind (arith, e), grind (arith, e))

pub digits_at : (xs : List ℕ) (i : ℕ) → AreDigits xs → i < length xs → is_digit (get_or xs i 0) ≡ true
digits_at [] i h lt = absurd (omega arith)
digits_at (x ∷ xs) zero h lt = h.0
digits_at (x ∷ xs) (suc i) h lt = digits_at xs i h.1 (omega arith)

-- one digit more
pub value_at_step : (xs : List ℕ) (i n : ℕ) → i < length xs → digits_value (n * 10 + (get_or xs i 0 - 48)) (drop (i + 1) xs) ≡ digits_value n (drop i xs)
value_at_step [] i n lt = absurd (omega arith)
value_at_step (x ∷ xs) zero n lt = refl
value_at_step (x ∷ xs) (suc i) n lt = rw add-one (let more = value_at_step xs i n (omega arith) in rw add-one at more)

pub value_append : (n : ℕ) (ds es : List ℕ) → digits_value n (ds ++ es) ≡ digits_value (digits_value n ds) es
value_append n [] es = refl
value_append n (d ∷ ds) es = value_append (n * 10 + (d - 48)) ds es

pub digits_take : (n : ℕ) (ds : List ℕ) → AreDigits ds → AreDigits (take n ds)
digits_take zero ds h = tt
digits_take (suc n) [] h = tt
digits_take (suc n) (d ∷ ds) h = (h.0, digits_take n ds h.1)

pub digits_both : (ds es : List ℕ) → AreDigits ds → AreDigits es → AreDigits (ds ++ es)
digits_both [] es h g = g
digits_both (d ∷ ds) es h g = (h.0, digits_both ds es h.1 g)

-- zeros multiply by tens
ten_times : (n t : ℕ) → n * 10 * t ≡ n * (t * 10)
ten_times n t = mul_assoc n 10 t ∙ ap (λ (x : ℕ). n * x) (mul_comm 10 t)

pub value_zeros : (n : ℕ) (ds : List ℕ) → AreZeros ds → digits_value n ds ≡ n * 10 ^ length ds
value_zeros n [] h = omega arith
value_zeros n (d ∷ ds) h =
    let zero_more : n * 10 + (d - 48) ≡ n * 10 = omega (arith, h.0) in
    ap (λ (x : ℕ). digits_value x ds) zero_more ∙ value_zeros (n * 10) ds h.1 ∙ ten_times n (10 ^ length ds) ∙ ap (λ (x : ℕ). n * x) (sym (pow-suc 10 (length ds)))

-- digits that end above zero spell no multiple of ten, unless there are none
pub last_digit : (n : ℕ) (ds : List ℕ) → AreDigits ds → EndsAboveZero ds → digits_value n ds % 10 ≡ 0 → ds ≡ []
last_digit n [] h e z = refl
last_digit n (d ∷ []) h e z = absurd (e (let s = digit_small d h.0 in omega arith))
last_digit n (d ∷ c ∷ ds) h e z = absurd (let none = last_digit (n * 10 + (d - 48)) (c ∷ ds) h.1 e z in cc)

pub no_tens : (ds : List ℕ) → AreDigits ds → EndsAboveZero ds → digits_value 0 ds % 10 ≡ 0 → digits_value 0 ds ≡ 0
no_tens ds h e z = ap (digits_value 0) (last_digit 0 ds h e z)

-- ---- zeros at the end

pub zeros_more : (xs : List ℕ) (i : ℕ) → i < length xs → get_or xs i 0 ≡ 48 → AreZeros (drop (i + 1) xs) → AreZeros (drop i xs)
zeros_more [] i lt e h = absurd (omega arith)
zeros_more (x ∷ xs) zero lt e h = (e, h)
zeros_more (x ∷ xs) (suc i) lt e h = zeros_more xs i (omega arith) e (rw add-one (rw add-one at h))

pub no_zeros : (xs : List ℕ) → AreZeros (drop (length xs) xs)
no_zeros [] = tt
no_zeros (x ∷ xs) = no_zeros xs

pub ends_above : (xs : List ℕ) (n : ℕ) → n < length xs → (get_or xs n 0 ≡ 48 → ⊥) → EndsAboveZero (take (n + 1) xs)
ends_above [] n lt h = absurd (omega arith)
ends_above (x ∷ xs) zero lt h = h
ends_above (x ∷ []) (suc n) lt h = absurd (omega arith)
ends_above (x ∷ y ∷ xs) (suc n) lt h = rw add-one (let more = ends_above (y ∷ xs) n (omega arith) h in rw add-one at more)

pub ends_with : (xs ys : List ℕ) → 0 < length ys → EndsAboveZero ys → EndsAboveZero (xs ++ ys)
ends_with [] ys lt h = h
ends_with (x ∷ xs) ys lt h = onto x (xs ++ ys) (omega (arith, length-append xs ys)) (ends_with xs ys lt h)
  where
    onto : (x : ℕ) (zs : List ℕ) → 0 < length zs → EndsAboveZero zs → EndsAboveZero (x ∷ zs)
    onto x [] lt h = absurd (omega arith)
    onto x (z ∷ zs) lt h = h

pub stripped_fraction : (int frac : List ℕ) (f : ℕ) → 0 < f → f ≤ length frac → AreZeros (drop f frac) → EndsAboveZero (take f frac) → IsStripped int frac (length int) f
stripped_fraction int frac f some le zeros last = record {
  integer_within = omega arith;
  fraction_within = le;
  integer_zeros = no_zeros int;
  fraction_zeros = zeros;
  all_integer = λ _. refl;
  last = ends_with (take (length int) int) (take f frac) (omega (arith, length-take-le f frac le)) last;
}

pub stripped_integer : (int frac : List ℕ) (i f : ℕ) → f ≤ 0 → AreZeros (drop f frac) → i ≤ length int → AreZeros (drop i int) → EndsAboveZero (take i int) → IsStripped int frac i 0
stripped_integer int frac i zero none zeros le ends last = record {
  integer_within = le;
  fraction_within = omega arith;
  integer_zeros = ends;
  fraction_zeros = zeros;
  all_integer = λ some. absurd (omega arith);
  last = rw append-nil last;
}
stripped_integer int frac i (suc f) none zeros le ends last = absurd (omega arith)

-- ---- the parts of a number

-- of none of these p holds
abbrev pub Lacks : (ℕ → Bool) → List ℕ → Type 0
Lacks p [] = Unit {0}
Lacks p (c ∷ cs) = (p c ≡ false) × Lacks p cs

pub before_over : (p : ℕ → Bool) (xs ys : List ℕ) → Lacks p xs → before p (xs ++ ys) ≡ xs ++ before p ys
before_over p [] ys h = refl
before_over p (x ∷ xs) ys h = rw h.0 (ap (λ (t : List ℕ). x ∷ t) (before_over p xs ys h.1))

pub behind_over : (p : ℕ → Bool) (xs ys : List ℕ) → Lacks p xs → behind p (xs ++ ys) ≡ behind p ys
behind_over p [] ys h = refl
behind_over p (x ∷ xs) ys h = rw h.0 (behind_over p xs ys h.1)

pub lacks_more : (p : ℕ → Bool) (xs : List ℕ) (i : ℕ) → i < length xs → Lacks p (take i xs) → p (get_or xs i 0) ≡ false → Lacks p (take (i + 1) xs)
lacks_more p [] i lt h e = absurd (omega arith)
lacks_more p (x ∷ xs) zero lt h e = (e, tt)
lacks_more p (x ∷ xs) (suc i) lt h e = let more = lacks_more p xs i (omega arith) h.1 e in rw add-one (h.0, rw add-one at more)

pub before_at : (p : ℕ → Bool) (xs : List ℕ) (i : ℕ) → i < length xs → Lacks p (take i xs) → p (get_or xs i 0) ≡ true → before p xs ≡ take i xs
before_at p [] i lt h e = absurd (omega arith)
before_at p (x ∷ xs) zero lt h e = rw e refl
before_at p (x ∷ xs) (suc i) lt h e = rw h.0 (ap (λ (t : List ℕ). x ∷ t) (before_at p xs i (omega arith) h.1 e))

pub behind_at : (p : ℕ → Bool) (xs : List ℕ) (i : ℕ) → i < length xs → Lacks p (take i xs) → p (get_or xs i 0) ≡ true → behind p xs ≡ drop (i + 1) xs
behind_at p [] i lt h e = absurd (omega arith)
behind_at p (x ∷ xs) zero lt h e = rw e refl
behind_at p (x ∷ xs) (suc i) lt h e = rw h.0 (let more = behind_at p xs i (omega arith) h.1 e in rw add-one (rw add-one at more))

pub before_none : (p : ℕ → Bool) (xs : List ℕ) (i : ℕ) → length xs ≤ i → Lacks p (take i xs) → before p xs ≡ xs
before_none p [] i le h = refl
before_none p (x ∷ xs) zero le h = absurd (omega arith)
before_none p (x ∷ xs) (suc i) le h = rw h.0 (ap (λ (t : List ℕ). x ∷ t) (before_none p xs i (omega arith) h.1))

pub behind_none : (p : ℕ → Bool) (xs : List ℕ) (i : ℕ) → length xs ≤ i → Lacks p (take i xs) → behind p xs ≡ drop i xs
behind_none p [] zero le h = refl
behind_none p [] (suc i) le h = refl
behind_none p (x ∷ xs) zero le h = absurd (omega arith)
behind_none p (x ∷ xs) (suc i) le h = rw h.0 (behind_none p xs i (omega arith) h.1)

digits_lack : (p : ℕ → Bool) (ds : List ℕ) → ((c : ℕ) → is_digit c ≡ true → p c ≡ false) → AreDigits ds → Lacks p ds
digits_lack p [] f h = tt
digits_lack p (d ∷ ds) f h = (f d h.0, digits_lack p ds f h.1)

int_digits : (s : List ℕ) → IsInt s → AreDigits s
int_digits [] h = tt
int_digits (c ∷ []) h = (h, tt)
int_digits (c ∷ d ∷ s) h = (h.0, h.1.1)

digits_are : (s : List ℕ) → IsDigits s → AreDigits s
digits_are [] h = tt
digits_are (c ∷ s) h = h

frac_lacks : (s : List ℕ) → IsFrac s → Lacks is_mark s
frac_lacks [] h = tt
frac_lacks (c ∷ s) h = (point_no_mark c h.0, digits_lack is_mark s digit_no_mark (digits_are s h.1))

before_frac : (s : List ℕ) → IsFrac s → before is_point s ≡ []
before_frac [] h = refl
before_frac (c ∷ s) h = rw h.0 refl

behind_frac : (s : List ℕ) → IsFrac s → AreDigits (behind is_point s)
behind_frac [] h = tt
behind_frac (c ∷ s) h = rw h.0 (digits_are s h.1)

before_exp : (s : List ℕ) → IsExp s → before is_mark s ≡ []
before_exp [] h = refl
before_exp (c ∷ s) h = rw h.0 refl

behind_exp : (s : List ℕ) → IsExp s → AreDigits (unsigned (behind is_mark s))
behind_exp [] h = tt
behind_exp (c ∷ s) h = rw h.0 (digits_are (unsigned s) h.1)

pub record AreParts (s : List ℕ) : Type 0 where
  pub integer_is : AreDigits (before is_point (before is_mark s))
  pub fraction_is : AreDigits (behind is_point (before is_mark s))
  pub exponent_is : AreDigits (unsigned (behind is_mark s))

parts_of : (int frac exp : List ℕ) → IsInt int → IsFrac frac → IsExp exp → AreParts (int ++ (frac ++ exp))
parts_of int frac exp i f x =
    let digits = int_digits int i in
    let no_mark = digits_lack is_mark int digit_no_mark digits in
    let no_point = digits_lack is_point int digit_no_point digits in
    let marked : before is_mark (int ++ (frac ++ exp)) ≡ int ++ frac = before_over is_mark int (frac ++ exp) no_mark ∙ ap (λ (t : List ℕ). int ++ t) (before_over is_mark frac exp (frac_lacks frac f) ∙ ap (λ (t : List ℕ). frac ++ t) (before_exp exp x) ∙ append-nil frac) in
    let front : before is_point (before is_mark (int ++ (frac ++ exp))) ≡ int = ap (before is_point) marked ∙ before_over is_point int frac no_point ∙ ap (λ (t : List ℕ). int ++ t) (before_frac frac f) ∙ append-nil int in
    let back : behind is_point (before is_mark (int ++ (frac ++ exp))) ≡ behind is_point frac = ap (behind is_point) marked ∙ behind_over is_point int frac no_point in
    let tail : behind is_mark (int ++ (frac ++ exp)) ≡ behind is_mark exp = behind_over is_mark int (frac ++ exp) no_mark ∙ behind_over is_mark frac exp (frac_lacks frac f) in
    record {
      integer_is = subst AreDigits (sym front) digits;
      fraction_is = subst AreDigits (sym back) (behind_frac frac f);
      exponent_is = subst (λ (t : List ℕ). AreDigits (unsigned t)) (sym tail) (behind_exp exp x);
    }

pub numeral_parts : (s : List ℕ) → IsNumeral s → AreParts (magnitude s)
numeral_parts s h = subst AreParts (sym h.parts) (parts_of h.int h.frac h.exp h.int_is h.frac_is h.exp_is)

-- no part is longer than the whole
split_at : (b : Bool) (x : ℕ) (xs front back : List ℕ) → length front + length back ≤ length xs → length (cond b [] (x ∷ front)) + length (cond b xs back) ≤ suc (length xs)
split_at true x xs front back h = omega arith
split_at false x xs front back h = omega arith

split_length : (p : ℕ → Bool) (xs : List ℕ) → length (before p xs) + length (behind p xs) ≤ length xs
split_length p [] = omega arith
split_length p (x ∷ xs) = split_at (p x) x xs (before p xs) (behind p xs) (split_length p xs)

magnitude_length : (s : List ℕ) → length (magnitude s) ≤ length s
magnitude_length [] = omega arith
magnitude_length (c ∷ s) = told (c == 45)
  where
    told : (b : Bool) → length (cond b s (c ∷ s)) ≤ suc (length s)
    told true = omega arith
    told false = omega arith

pub parts_length : (s : List ℕ) → length (integer s) + length (fraction s) ≤ length s
parts_length s = omega (arith, split_length is_point (significand s), split_length is_mark (magnitude s), magnitude_length s)

-- ---- numbers are ASCII

pub ascii_more : (c : ℕ) (s : List ℕ) → c < 128 → IsAscii s → IsAscii (c ∷ s)
ascii_more c s small h zero = small
ascii_more c s small h (suc i) = h i

leading_small : (q : Part) (c : ℕ) → leading c ≡ Some q → c < 128
unfolding leading is_digit
leading_small q c e = grind (arith, e)

marked_small : (q : Part) (c : ℕ) → marked c ≡ Some q → c < 128
unfolding marked is_mark
marked_small q c e = grind (arith, e)

pointed_small : (q : Part) (c : ℕ) → pointed c ≡ Some q → c < 128
unfolding pointed marked is_point is_mark
pointed_small q c e = grind (arith, e)

next_small : (p q : Part) (c : ℕ) → next_part p c ≡ Some q → c < 128
unfolding next_part leading marked pointed is_digit is_point is_mark is_sign
next_small Start q c e = grind (arith, e)
next_small Minus q c e = leading_small q c e
next_small Nought q c e = pointed_small q c e
next_small Whole q c e = grind (arith, e)
next_small Point q c e = grind (arith, e)
next_small Fraction q c e = grind (arith, e)
next_small Mark q c e = grind (arith, e)
next_small Sign q c e = grind (arith, e)
next_small Exponent q c e = grind (arith, e)

parts_ascii : (o : Option Part) (q : Part) (s : List ℕ) → part_behind o s ≡ Some q → IsAscii s
parts_ascii o q [] e = IsAscii-nil
parts_ascii None q (c ∷ s) e = absurd cc
parts_ascii (Some p) q (c ∷ s) e = ascii_more c s (goes (next_part p c) refl e) (parts_ascii (next_part p c) q s e)
  where
    goes : (o : Option Part) → next_part p c ≡ o → part_behind o s ≡ Some q → c < 128
    goes None n e = absurd (let none = sym (part_none s) ∙ e in cc)
    goes (Some r) n e = next_small p r c n

pub number_utf8 : (s : List ℕ) → IsNumeral s → IsUtf8 s
number_utf8 s h = let a = numeral_accepted s h in IsUtf8-from_ascii s (parts_ascii (Some Start) a.to s a.leads)
