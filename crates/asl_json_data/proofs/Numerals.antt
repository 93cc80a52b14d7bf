-- The grammar of numbers, and the parts through which the machine goes over them.
use Rattle.std.proofs.Common.{◌≡◌, ℕ, Bool, true, false, cond, ◌==◌, List, [], ◌∷◌, ◌++◌, Option, Some, None, refl, sym, ap, subst, ◌∙◌, append_assoc, arith, ◌⊎◌, inl, inr}
use Rattle.std.proofs.lemmas.Bool.{eqb-true}
use Rattle.std.proofs.lemmas.Bool.Decides.{Decides-at}
use Rattle.std.proofs.lemmas.List.{append-nil}
use Rattle.std.specs.Bool.{Decides}
use Rattle.asl_json_data.specs.Number.{is_digit, is_point, is_mark, is_sign, AreDigits, IsDigits, unsigned, IsInt, IsFrac, IsExp, IsUnsigned, IsNumeral, IsNumeralFront, EndsNumber}
use Rattle.asl_json_data.specs.private.NumberParts.{leading, marked, pointed, next_part, part_behind, takes_digits, may_end, is_part, ends_part, is_number_front, is_number}
use Rattle.asl_json_data.specs.declared.part.Part.{Part}
use Rattle.asl_json_data.specs.declared.part.Part.TheVariants.{Start, Minus, Nought, Whole, Point, Fraction, Mark, Sign, Exponent}

-- ---- parts behind bytes

pub part_none : (s : List ℕ) → part_behind None s ≡ None
part_none [] = refl
part_none (c ∷ s) = refl

part_append : (o : Option Part) (s t : List ℕ) → part_behind o (s ++ t) ≡ part_behind (part_behind o s) t
part_append o [] t = refl
part_append None (c ∷ s) t = sym (part_none t)
part_append (Some p) (c ∷ s) t = part_append (next_part p c) s t

-- these bytes are so much of a number
abbrev pub IsPart : Part → List ℕ → Type 0
IsPart p s = part_behind (Some Start) s ≡ Some p

part_onto : (p : Part) (s t : List ℕ) → IsPart p s → part_behind (Some Start) (s ++ t) ≡ part_behind (Some p) t
part_onto p s t h = part_append (Some Start) s t ∙ ap (λ (o : Option Part). part_behind o t) h

pub part_stays : (p : Part) (c : ℕ) → takes_digits p ≡ true → is_digit c ≡ true → next_part p c ≡ Some p
unfolding next_part
part_stays Whole c t e = rw e refl
part_stays Fraction c t e = rw e refl
part_stays Exponent c t e = rw e refl
part_stays x c t e = absurd cc

pub part_push : (p q : Part) (s : List ℕ) (c : ℕ) → next_part p c ≡ Some q → IsPart p s → IsPart q (s ++ c ∷ [])
part_push p q s c e h = part_onto p s (c ∷ []) h ∙ e

-- ---- bytes that are not one another

pub digit_no_point : (c : ℕ) → is_digit c ≡ true → is_point c ≡ false
unfolding is_digit is_point
digit_no_point c e = grind (arith, e)

pub digit_no_mark : (c : ℕ) → is_digit c ≡ true → is_mark c ≡ false
unfolding is_digit is_mark
digit_no_mark c e = grind (arith, e)

digit_no_sign : (c : ℕ) → is_digit c ≡ true → is_sign c ≡ false
unfolding is_digit is_sign
digit_no_sign c e = grind (arith, e)

digit_no_minus : (c : ℕ) → is_digit c ≡ true → (c == 45) ≡ false
unfolding is_digit
digit_no_minus c e = grind (arith, e)

point_no_digit : (c : ℕ) → is_point c ≡ true → is_digit c ≡ false
unfolding is_digit is_point
point_no_digit c e = grind (arith, e)

pub point_no_mark : (c : ℕ) → is_point c ≡ true → is_mark c ≡ false
unfolding is_point is_mark
point_no_mark c e = grind (arith, e)

mark_no_digit : (c : ℕ) → is_mark c ≡ true → is_digit c ≡ false
unfolding is_digit is_mark
mark_no_digit c e = grind (arith, e)

mark_no_point : (c : ℕ) → is_mark c ≡ true → is_point c ≡ false
unfolding is_point is_mark
mark_no_point c e = grind (arith, e)

sign_no_digit : (c : ℕ) → is_sign c ≡ true → is_digit c ≡ false
unfolding is_digit is_sign
sign_no_digit c e = grind (arith, e)

zero_is_digit : is_digit 48 ≡ true
unfolding is_digit
zero_is_digit = refl

-- ---- a numeral leads to a part in which a number may end

pub record Accepts (p : Part) (s : List ℕ) : Type 0 where
  pub to : Part
  pub leads : part_behind (Some p) s ≡ Some to
  pub ends : may_end to ≡ true

accepts_next : (p q : Part) (c : ℕ) (s : List ℕ) → next_part p c ≡ Some q → Accepts q s → Accepts p (c ∷ s)
accepts_next p q c s e h = record { to = h.to; leads = ap (λ (o : Option Part). part_behind o s) e ∙ h.leads; ends = h.ends }

accepts_exponent : (ds : List ℕ) → AreDigits ds → Accepts Exponent ds
unfolding next_part
accepts_exponent [] h = record { to = Exponent; leads = refl; ends = refl }
accepts_exponent (c ∷ ds) h = accepts_next Exponent Exponent c ds (rw h.0 refl) (accepts_exponent ds h.1)

accepts_sign : (ds : List ℕ) → IsDigits ds → Accepts Sign ds
unfolding next_part
accepts_sign [] h = absurd h
accepts_sign (c ∷ ds) h = accepts_next Sign Exponent c ds (rw h.0 refl) (accepts_exponent ds h.1)

accepts_mark : (s : List ℕ) → IsDigits (unsigned s) → Accepts Mark s
unfolding next_part
accepts_mark [] h = absurd h
accepts_mark (c ∷ s) h = told (is_sign c) refl h
  where
    told : (b : Bool) → is_sign c ≡ b → IsDigits (cond b s (c ∷ s)) → Accepts Mark (c ∷ s)
    told true e h = accepts_next Mark Sign c s (rw (sign_no_digit c e, e) refl) (accepts_sign s h)
    told false e h = accepts_next Mark Exponent c s (rw h.0 refl) (accepts_exponent s h.1)

marks : (c : ℕ) → is_mark c ≡ true → marked c ≡ Some Mark
unfolding marked
marks c e = rw e refl

pointed_marks : (c : ℕ) → is_mark c ≡ true → pointed c ≡ Some Mark
unfolding pointed
pointed_marks c e = rw (mark_no_point c e) (marks c e)

points : (c : ℕ) → is_point c ≡ true → pointed c ≡ Some Point
unfolding pointed
points c e = rw e refl

accepts_fraction : (ds exp : List ℕ) → AreDigits ds → IsExp exp → Accepts Fraction (ds ++ exp)
unfolding next_part
accepts_fraction [] [] h x = record { to = Fraction; leads = refl; ends = refl }
accepts_fraction [] (c ∷ exp) h x = accepts_next Fraction Mark c exp (rw (mark_no_digit c x.0) (marks c x.0)) (accepts_mark exp x.1)
accepts_fraction (d ∷ ds) exp h x = accepts_next Fraction Fraction d (ds ++ exp) (rw h.0 refl) (accepts_fraction ds exp h.1 x)

accepts_point : (ds exp : List ℕ) → IsDigits ds → IsExp exp → Accepts Point (ds ++ exp)
unfolding next_part
accepts_point [] exp h x = absurd h
accepts_point (d ∷ ds) exp h x = accepts_next Point Fraction d (ds ++ exp) (rw h.0 refl) (accepts_fraction ds exp h.1 x)

accepts_nought : (frac exp : List ℕ) → IsFrac frac → IsExp exp → Accepts Nought (frac ++ exp)
unfolding next_part
accepts_nought [] [] f x = record { to = Nought; leads = refl; ends = refl }
accepts_nought [] (c ∷ exp) f x = accepts_next Nought Mark c exp (pointed_marks c x.0) (accepts_mark exp x.1)
accepts_nought (c ∷ ds) exp f x = accepts_next Nought Point c (ds ++ exp) (points c f.0) (accepts_point ds exp f.1 x)

accepts_whole : (ds frac exp : List ℕ) → AreDigits ds → IsFrac frac → IsExp exp → Accepts Whole (ds ++ (frac ++ exp))
unfolding next_part
accepts_whole [] [] [] h f x = record { to = Whole; leads = refl; ends = refl }
accepts_whole [] [] (c ∷ exp) h f x = accepts_next Whole Mark c exp (rw (mark_no_digit c x.0) (pointed_marks c x.0)) (accepts_mark exp x.1)
accepts_whole [] (c ∷ ds) exp h f x = accepts_next Whole Point c (ds ++ exp) (rw (point_no_digit c f.0) (points c f.0)) (accepts_point ds exp f.1 x)
accepts_whole (d ∷ ds) frac exp h f x = accepts_next Whole Whole d (ds ++ (frac ++ exp)) (rw h.0 refl) (accepts_whole ds frac exp h.1 f x)

leads_nought : (c : ℕ) → (c == 48) ≡ true → leading c ≡ Some Nought
unfolding leading
leads_nought c e = rw e refl

leads_whole : (c : ℕ) → is_digit c ≡ true → (c == 48) ≡ false → leading c ≡ Some Whole
unfolding leading
leads_whole c d e = rw (e, d) refl

-- a part in which a first digit is wanted
abbrev AsksDigit : Part → Type 0
AsksDigit p = (c : ℕ) → is_digit c ≡ true → next_part p c ≡ leading c

accepts_int : (p : Part) (int frac exp : List ℕ) → AsksDigit p → IsInt int → IsFrac frac → IsExp exp → Accepts p (int ++ (frac ++ exp))
accepts_int p [] frac exp asks h f x = absurd h
accepts_int p (c ∷ []) frac exp asks h f x = told (c == 48) refl
  where
    told : (b : Bool) → (c == 48) ≡ b → Accepts p (c ∷ (frac ++ exp))
    told true e = accepts_next p Nought c (frac ++ exp) (asks c h ∙ leads_nought c e) (accepts_nought frac exp f x)
    told false e = accepts_next p Whole c (frac ++ exp) (asks c h ∙ leads_whole c h e) (accepts_whole [] frac exp tt f x)
accepts_int p (c ∷ d ∷ ds) frac exp asks h f x = accepts_next p Whole c ((d ∷ ds) ++ (frac ++ exp)) (asks c h.0 ∙ leads_whole c h.0 h.1.0) (accepts_whole (d ∷ ds) frac exp h.1.1 f x)

start_asks : AsksDigit Start
unfolding next_part
start_asks c d = rw (digit_no_minus c d) refl

minus_asks : AsksDigit Minus
unfolding next_part
minus_asks c d = refl

accepts_unsigned : (p : Part) (s : List ℕ) → AsksDigit p → IsUnsigned s → Accepts p s
accepts_unsigned p s asks h = subst (Accepts p) (sym h.parts) (accepts_int p h.int h.frac h.exp asks h.int_is h.frac_is h.exp_is)

pub numeral_accepted : (s : List ℕ) → IsNumeral s → Accepts Start s
unfolding next_part
numeral_accepted [] h = accepts_unsigned Start [] start_asks h
numeral_accepted (c ∷ s) h = told (c == 45) refl h
  where
    told : (b : Bool) → (c == 45) ≡ b → IsUnsigned (cond b s (c ∷ s)) → Accepts Start (c ∷ s)
    told true e h = accepts_next Start Minus c s (rw e refl) (accepts_unsigned Minus s minus_asks h)
    told false e h = accepts_unsigned Start (c ∷ s) start_asks h

-- ---- and what leads to such a part is a numeral

-- what is left of int and of frac, and exp
record Rest (I F : List ℕ → Type 0) (s : List ℕ) : Type 0 where
  pub int : List ℕ
  pub frac : List ℕ
  pub exp : List ℕ
  pub parts : s ≡ int ++ (frac ++ exp)
  pub int_is : I int
  pub frac_is : F frac
  pub exp_is : IsExp exp

abbrev IsNothing : List ℕ → Type 0
IsNothing s = s ≡ []

-- what may follow to the end of a number
abbrev Follows : Part → List ℕ → Type 0
Follows Start s = IsNumeral s
Follows Minus s = IsUnsigned s
Follows Nought s = Rest IsNothing IsFrac s
Follows Whole s = Rest AreDigits IsFrac s
Follows Point s = Rest IsNothing IsDigits s
Follows Fraction s = Rest IsNothing AreDigits s
Follows Mark s = IsDigits (unsigned s)
Follows Sign s = IsDigits s
Follows Exponent s = AreDigits s

nothing_follows : (p : Part) → may_end p ≡ true → Follows p []
nothing_follows Nought e = record { int = []; frac = []; exp = []; parts = refl; int_is = refl; frac_is = tt; exp_is = tt }
nothing_follows Whole e = record { int = []; frac = []; exp = []; parts = refl; int_is = tt; frac_is = tt; exp_is = tt }
nothing_follows Fraction e = record { int = []; frac = []; exp = []; parts = refl; int_is = refl; frac_is = tt; exp_is = tt }
nothing_follows Exponent e = tt
nothing_follows x e = absurd cc

-- which way a test went
record Chosen (b : Bool) (x y : Option Part) (q : Part) : Type 0 where
  pub which : ((b ≡ true) × (x ≡ Some q)) ⊎ ((b ≡ false) × (y ≡ Some q))

chosen : (b : Bool) (x y : Option Part) (q : Part) → cond b x y ≡ Some q → Chosen b x y q
chosen true x y q e = record { which = inl (refl, e) }
chosen false x y q e = record { which = inr (refl, e) }

pub some_is : (p q : Part) → Some p ≡ Some q → p ≡ q
some_is p q e = cc

moved : (p q : Part) (s : List ℕ) → Some p ≡ Some q → Follows q s → Follows p s
moved p q s e h = subst (λ (r : Part). Follows r s) (sym (some_is p q e)) h

exp_from : (q : Part) (c : ℕ) (s : List ℕ) → marked c ≡ Some q → Follows q s → IsExp (c ∷ s)
unfolding marked
exp_from q c s e h = elim (chosen (is_mark c) (Some Mark) None q e).which [ inl w ↦ (w.0, moved Mark q s w.1 h) | inr w ↦ absurd (let n = w.1 in cc) ]

-- exp alone
only_exp : (I F : List ℕ → Type 0) (s : List ℕ) → I [] → F [] → IsExp s → Rest I F s
only_exp I F s i f x = record { int = []; frac = []; exp = s; parts = refl; int_is = i; frac_is = f; exp_is = x }

-- a point behind which a fraction follows
point_from : (I : List ℕ → Type 0) (c : ℕ) (s : List ℕ) → I [] → is_point c ≡ true → Rest IsNothing IsDigits s → Rest I IsFrac (c ∷ s)
point_from I c s i e h = record {
  int = [];
  frac = c ∷ h.frac;
  exp = h.exp;
  parts = ap (λ (t : List ℕ). c ∷ t) (h.parts ∙ ap (λ (t : List ℕ). t ++ (h.frac ++ h.exp)) h.int_is);
  int_is = i;
  frac_is = (e, h.frac_is);
  exp_is = h.exp_is;
}

pointed_from : (I : List ℕ → Type 0) (q : Part) (c : ℕ) (s : List ℕ) → I [] → pointed c ≡ Some q → Follows q s → Rest I IsFrac (c ∷ s)
unfolding pointed
pointed_from I q c s i e h =
    elim (chosen (is_point c) (Some Point) (marked c) q e).which [ inl w ↦ point_from I c s i w.0 (moved Point q s w.1 h) | inr w ↦ only_exp I IsFrac (c ∷ s) i tt (exp_from q c s w.1 h) ]

-- a digit more in front of those of the fraction
fraction_digit : (F : List ℕ → Type 0) (c : ℕ) (s : List ℕ) → ((ds : List ℕ) → AreDigits ds → F (c ∷ ds)) → Rest IsNothing AreDigits s → Rest IsNothing F (c ∷ s)
fraction_digit F c s f h = record {
  int = [];
  frac = c ∷ h.frac;
  exp = h.exp;
  parts = ap (λ (t : List ℕ). c ∷ t) (h.parts ∙ ap (λ (t : List ℕ). t ++ (h.frac ++ h.exp)) h.int_is);
  int_is = refl;
  frac_is = f h.frac h.frac_is;
  exp_is = h.exp_is;
}

whole_digit : (c : ℕ) (s : List ℕ) → is_digit c ≡ true → Rest AreDigits IsFrac s → Rest AreDigits IsFrac (c ∷ s)
whole_digit c s e h = record { int = c ∷ h.int; frac = h.frac; exp = h.exp; parts = ap (λ (t : List ℕ). c ∷ t) h.parts; int_is = (e, h.int_is); frac_is = h.frac_is; exp_is = h.exp_is }

int_of : (c : ℕ) (ds : List ℕ) → is_digit c ≡ true → (c == 48) ≡ false → AreDigits ds → IsInt (c ∷ ds)
int_of c [] e n h = e
int_of c (d ∷ ds) e n h = (e, (n, h))

nought_digit : (c : ℕ) (s : List ℕ) → (c == 48) ≡ true → Rest IsNothing IsFrac s → IsUnsigned (c ∷ s)
nought_digit c s e h = record {
  int = c ∷ [];
  frac = h.frac;
  exp = h.exp;
  parts = ap (λ (t : List ℕ). c ∷ t) (h.parts ∙ ap (λ (t : List ℕ). t ++ (h.frac ++ h.exp)) h.int_is);
  int_is = subst (λ (x : ℕ). is_digit x ≡ true) (sym (eqb-true c 48 e)) zero_is_digit;
  frac_is = h.frac_is;
  exp_is = h.exp_is;
}

first_digit : (c : ℕ) (s : List ℕ) → is_digit c ≡ true → (c == 48) ≡ false → Rest AreDigits IsFrac s → IsUnsigned (c ∷ s)
first_digit c s e n h = record { int = c ∷ h.int; frac = h.frac; exp = h.exp; parts = ap (λ (t : List ℕ). c ∷ t) h.parts; int_is = int_of c h.int e n h.int_is; frac_is = h.frac_is; exp_is = h.exp_is }

unsigned_from : (q : Part) (c : ℕ) (s : List ℕ) → leading c ≡ Some q → Follows q s → IsUnsigned (c ∷ s)
unfolding leading
unsigned_from q c s e h =
    elim (chosen (c == 48) (Some Nought) (cond (is_digit c) (Some Whole) None) q e).which [
      | inl w ↦ nought_digit c s w.0 (moved Nought q s w.1 h)
      | inr w ↦ elim (chosen (is_digit c) (Some Whole) None q w.1).which [ inl v ↦ first_digit c s v.0 w.0 (moved Whole q s v.1 h) | inr v ↦ absurd (let n = v.1 in cc) ]
    ]

leading_no_minus : (q : Part) (c : ℕ) → leading c ≡ Some q → (c == 45) ≡ false
unfolding leading
leading_no_minus q c e = elim (chosen (c == 48) (Some Nought) (cond (is_digit c) (Some Whole) None) q e).which [
  | inl w ↦ digit_no_minus c (subst (λ (x : ℕ). is_digit x ≡ true) (sym (eqb-true c 48 w.0)) zero_is_digit)
  | inr w ↦ elim (chosen (is_digit c) (Some Whole) None q w.1).which [ inl v ↦ digit_no_minus c v.0 | inr v ↦ absurd (let n = v.1 in cc) ]
]

-- a digit, or nothing
digit_only : (p q : Part) (c : ℕ) → cond (is_digit c) (Some p) None ≡ Some q → (is_digit c ≡ true) × (Some p ≡ Some q)
digit_only p q c e = elim (chosen (is_digit c) (Some p) None q e).which [ inl w ↦ w | inr w ↦ absurd (let n = w.1 in cc) ]

one_follows : (p q : Part) (c : ℕ) (s : List ℕ) → next_part p c ≡ Some q → Follows q s → Follows p (c ∷ s)
unfolding next_part
one_follows Start q c s e h =
    elim (chosen (c == 45) (Some Minus) (leading c) q e).which [
      | inl w ↦ rw w.0 (moved Minus q s w.1 h)
      | inr w ↦ rw w.0 (unsigned_from q c s w.1 h)
    ]
one_follows Minus q c s e h = unsigned_from q c s e h
one_follows Nought q c s e h = pointed_from IsNothing q c s refl e h
one_follows Whole q c s e h =
    elim (chosen (is_digit c) (Some Whole) (pointed c) q e).which [ inl w ↦ whole_digit c s w.0 (moved Whole q s w.1 h) | inr w ↦ pointed_from AreDigits q c s tt w.1 h ]
one_follows Point q c s e h =
    let w = digit_only Fraction q c e in
    fraction_digit IsDigits c s (λ ds g. (w.0, g)) (moved Fraction q s w.1 h)
one_follows Fraction q c s e h =
    elim (chosen (is_digit c) (Some Fraction) (marked c) q e).which [
      | inl w ↦ fraction_digit AreDigits c s (λ ds g. (w.0, g)) (moved Fraction q s w.1 h)
      | inr w ↦ only_exp IsNothing AreDigits (c ∷ s) refl tt (exp_from q c s w.1 h)
    ]
one_follows Mark q c s e h =
    elim (chosen (is_digit c) (Some Exponent) (cond (is_sign c) (Some Sign) None) q e).which [
      | inl w ↦ rw (digit_no_sign c w.0) (w.0, moved Exponent q s w.1 h)
      | inr w ↦ elim (chosen (is_sign c) (Some Sign) None q w.1).which [ inl v ↦ rw v.0 (moved Sign q s v.1 h) | inr v ↦ absurd (let n = v.1 in cc) ]
    ]
one_follows Sign q c s e h = let w = digit_only Exponent q c e in (w.0, moved Exponent q s w.1 h)
one_follows Exponent q c s e h = let w = digit_only Exponent q c e in (w.0, moved Exponent q s w.1 h)

-- whatever the byte leads to
byte_follows : (p q : Part) (c : ℕ) (s : List ℕ) (o : Option Part) → next_part p c ≡ o → ((r : Part) → part_behind (Some r) s ≡ Some q → Follows r s) → part_behind o s ≡ Some q → Follows p (c ∷ s)
byte_follows p q c s None n later e = absurd (let none = sym (part_none s) ∙ e in cc)
byte_follows p q c s (Some r) n later e = one_follows p r c s n (later r e)

all_follow : (p q : Part) (s : List ℕ) → part_behind (Some p) s ≡ Some q → may_end q ≡ true → Follows p s
all_follow p q [] e m = nothing_follows p (ap may_end (some_is p q e) ∙ m)
all_follow p q (c ∷ s) e m = byte_follows p q c s (next_part p c) refl (λ r g. all_follow r q s g m) e

pub part_is_numeral : (p : Part) (s : List ℕ) → may_end p ≡ true → IsPart p s → IsNumeral s
part_is_numeral p s m h = all_follow Start p s h m

-- ---- what goes on, and what doesn't

-- bytes with which a number that has gone so far ends
abbrev pub ending : Part → List ℕ
ending Start = 48 ∷ []
ending Minus = 48 ∷ []
ending Nought = []
ending Whole = []
ending Point = 48 ∷ []
ending Fraction = []
ending Mark = 48 ∷ []
ending Sign = 48 ∷ []
ending Exponent = []

ending_accepted : (p : Part) → Accepts p (ending p)
unfolding next_part leading is_digit
ending_accepted Start = record { to = Nought; leads = refl; ends = refl }
ending_accepted Minus = record { to = Nought; leads = refl; ends = refl }
ending_accepted Nought = record { to = Nought; leads = refl; ends = refl }
ending_accepted Whole = record { to = Whole; leads = refl; ends = refl }
ending_accepted Point = record { to = Fraction; leads = refl; ends = refl }
ending_accepted Fraction = record { to = Fraction; leads = refl; ends = refl }
ending_accepted Mark = record { to = Exponent; leads = refl; ends = refl }
ending_accepted Sign = record { to = Exponent; leads = refl; ends = refl }
ending_accepted Exponent = record { to = Exponent; leads = refl; ends = refl }

pub part_goes_on : (p : Part) (s : List ℕ) → IsPart p s → IsNumeral (s ++ ending p)
part_goes_on p s h =
    let a = ending_accepted p in
    part_is_numeral a.to (s ++ ending p) a.ends (part_onto p s (ending p) h ∙ a.leads)

-- the number that has gone so far is the longest one before a byte with which it doesn't go on
pub part_longest : (p : Part) (s : List ℕ) (c : ℕ) (cs : List ℕ) → IsPart p s → next_part p c ≡ None → EndsNumber s (c ∷ cs)
part_longest p s c cs h stops more w =
    let a = numeral_accepted (s ++ c ∷ more) w in
    let none = sym (part_onto p s (c ∷ more) h ∙ ap (λ (o : Option Part). part_behind o more) stops ∙ part_none more) ∙ a.leads in
    cc

-- ---- the fronts of numerals

pub numeral_front : (s : List ℕ) → IsNumeral s → IsNumeralFront s
numeral_front s h = record { more = []; is_numeral = subst IsNumeral (sym (append-nil s)) h }

pub shorter_numeral_front : (s t : List ℕ) → IsNumeralFront (s ++ t) → IsNumeralFront s
shorter_numeral_front s t h = record { more = t ++ h.more; is_numeral = subst IsNumeral (append_assoc s t h.more) h.is_numeral }

pub part_front : (p : Part) (s : List ℕ) → IsPart p s → IsNumeralFront s
part_front p s h = record { more = ending p; is_numeral = part_goes_on p s h }

-- what stands before more of a number is so much of it
pub part_before : (p : Part) (s t : List ℕ) → IsPart p (s ++ t) → (q : Part) × IsPart q s
part_before p s t h = told (part_behind (Some Start) s) refl
  where
    told : (o : Option Part) → part_behind (Some Start) s ≡ o → (q : Part) × IsPart q s
    told (Some q) e = (q, e)
    told None e = absurd (let none = sym (part_append (Some Start) s t ∙ ap (λ (o : Option Part). part_behind o t) e ∙ part_none t) ∙ h in cc)

-- no number goes on over a byte exactly where none begins with that byte too
pub dead_ends : (s : List ℕ) (c : ℕ) (cs : List ℕ) → (IsNumeralFront (s ++ c ∷ []) → ⊥) → EndsNumber s (c ∷ cs)
dead_ends s c cs dead = λ more n. dead (record { more = more; is_numeral = subst IsNumeral (sym (append_assoc s (c ∷ []) more)) n })

pub ends_dead : (s : List ℕ) (c : ℕ) (cs : List ℕ) → EndsNumber s (c ∷ cs) → IsNumeralFront (s ++ c ∷ []) → ⊥
ends_dead s c cs longest f = longest f.more (subst IsNumeral (append_assoc s (c ∷ []) f.more) f.is_numeral)

pub stops_dead : (p : Part) (s : List ℕ) (c : ℕ) → IsPart p s → next_part p c ≡ None → IsNumeralFront (s ++ c ∷ []) → ⊥
stops_dead p s c h stops = ends_dead s c [] (part_longest p s c [] h stops)

-- the longest number doesn't go on over the next byte
pub longest_stops : (p : Part) (s : List ℕ) (c : ℕ) (cs : List ℕ) → IsPart p s → EndsNumber s (c ∷ cs) → next_part p c ≡ None
longest_stops p s c cs h longest = told (next_part p c) refl
  where
    told : (o : Option Part) → next_part p c ≡ o → o ≡ None
    told None e = refl
    told (Some q) e = absurd (ends_dead s c cs longest (part_front q (s ++ c ∷ []) (part_push p q s c e h)))

-- ---- the tests of bytes

pub front_decides : (s : List ℕ) → Decides (is_number_front s) (IsNumeralFront s)
unfolding is_number_front
front_decides s = (at (part_behind (Some Start) s) refl, λ h. let a = numeral_accepted (s ++ h.more) h.is_numeral in ap is_part (part_before a.to s h.more a.leads).1)
  where
    at : (o : Option Part) → part_behind (Some Start) s ≡ o → is_part o ≡ true → IsNumeralFront s
    at None h e = absurd cc
    at (Some p) h e = part_front p s h

pub numeral_decides : (s : List ℕ) → Decides (is_number s) (IsNumeral s)
unfolding is_number
numeral_decides s = (at (part_behind (Some Start) s) refl, λ h. let a = numeral_accepted s h in ap ends_part a.leads ∙ a.ends)
  where
    at : (o : Option Part) → part_behind (Some Start) s ≡ o → ends_part o ≡ true → IsNumeral s
    at None h e = absurd cc
    at (Some p) h e = part_is_numeral p s e h

-- a number may end in its part exactly where it is a numeral
pub part_decides : (p : Part) (s : List ℕ) → IsPart p s → Decides (may_end p) (IsNumeral s)
unfolding is_number
part_decides p s h = Decides-at (may_end p) (is_number s) (sym (ap ends_part h)) (numeral_decides s)

fails : {P : Type 0} (b : Bool) → Decides b P → (P → ⊥) → b ≡ false
fails true d h = absurd (h (d.0 refl))
fails false d h = refl

pub front_fails : (s : List ℕ) → (IsNumeralFront s → ⊥) → is_number_front s ≡ false
front_fails s h = fails (is_number_front s) (front_decides s) h

pub numeral_fails : (s : List ℕ) → (IsNumeral s → ⊥) → is_number s ≡ false
numeral_fails s h = fails (is_number s) (numeral_decides s) h

-- ---- no number is empty

pub numeral_some : (s : List ℕ) → IsNumeral s → s ≡ [] → ⊥
numeral_some [] h e = let a = numeral_accepted [] h in absurd (none_there a.to (some_is Start a.to a.leads) a.ends)
  where
    none_there : (p : Part) → Start ≡ p → may_end p ≡ true → ⊥
    none_there p e m = let no : may_end Start ≡ true = ap may_end e ∙ m in cc
numeral_some (c ∷ s) h e = cc
