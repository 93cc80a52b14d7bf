-- A number of few bytes is in the limits, by the part in which it ends.
use Rattle.std.proofs.Common.{◌≡◌, ◌≤◌, ℕ, Bool, true, false, cond, ◌==◌, List, [], ◌∷◌, ◌++◌, length, Option, Some, None, refl, sym, ap, subst, ◌∙◌, arith}
use Rattle.asl_json_data.specs.Number.{is_digit, is_point, is_mark, is_sign, IsNumeral, magnitude, integer, fraction, exponent, before, behind, significand, max_number_len, is_over}
use Rattle.asl_json_data.specs.private.NumberParts.{leading, marked, pointed, next_part, part_behind, may_end}
use Rattle.asl_json_data.specs.declared.part.Part.{Part}
use Rattle.asl_json_data.specs.declared.part.Part.TheVariants.{Start, Minus, Nought, Whole, Point, Fraction, Mark, Sign, Exponent}
use Rattle.asl_json_data.proofs.Figures.{Lacks, parts_length}
use Rattle.asl_json_data.proofs.Numerals.{IsPart, part_none, part_is_numeral}
use Rattle.asl_json_data.proofs.Plainly.{few_fit}

abbrev pub in_exponent : Part → Bool
in_exponent Start = false
in_exponent Minus = false
in_exponent Nought = false
in_exponent Whole = false
in_exponent Point = false
in_exponent Fraction = false
in_exponent Mark = true
in_exponent Sign = true
in_exponent Exponent = true

abbrev pub behind_point : Part → Bool
behind_point Point = true
behind_point Fraction = true
behind_point Start = false
behind_point Minus = false
behind_point Nought = false
behind_point Whole = false
behind_point Mark = true
behind_point Sign = true
behind_point Exponent = true

mark_enters : (p q : Part) (c : ℕ) → is_mark c ≡ true → next_part p c ≡ Some q → in_exponent q ≡ true
unfolding next_part leading marked pointed is_digit is_point is_mark is_sign
mark_enters Start q c m e = grind (arith, m, e)
mark_enters Minus q c m e = grind (arith, m, e)
mark_enters Nought q c m e = grind (arith, m, e)
mark_enters Whole q c m e = grind (arith, m, e)
mark_enters Point q c m e = grind (arith, m, e)
mark_enters Fraction q c m e = grind (arith, m, e)
mark_enters Mark q c m e = grind (arith, m, e)
mark_enters Sign q c m e = grind (arith, m, e)
mark_enters Exponent q c m e = grind (arith, m, e)

mark_stays : (p q : Part) (c : ℕ) → in_exponent p ≡ true → next_part p c ≡ Some q → in_exponent q ≡ true
unfolding next_part leading marked pointed is_digit is_point is_mark is_sign
mark_stays Mark q c h e = grind (arith, e)
mark_stays Sign q c h e = grind (arith, e)
mark_stays Exponent q c h e = grind (arith, e)
mark_stays x q c h e = absurd cc

point_enters : (p q : Part) (c : ℕ) → is_point c ≡ true → next_part p c ≡ Some q → behind_point q ≡ true
unfolding next_part leading marked pointed is_digit is_point is_mark is_sign
point_enters Start q c m e = grind (arith, m, e)
point_enters Minus q c m e = grind (arith, m, e)
point_enters Nought q c m e = grind (arith, m, e)
point_enters Whole q c m e = grind (arith, m, e)
point_enters Point q c m e = grind (arith, m, e)
point_enters Fraction q c m e = grind (arith, m, e)
point_enters Mark q c m e = grind (arith, m, e)
point_enters Sign q c m e = grind (arith, m, e)
point_enters Exponent q c m e = grind (arith, m, e)

point_stays : (p q : Part) (c : ℕ) → behind_point p ≡ true → next_part p c ≡ Some q → behind_point q ≡ true
unfolding next_part leading marked pointed is_digit is_point is_mark is_sign
point_stays Point q c h e = grind (arith, e)
point_stays Fraction q c h e = grind (arith, e)
point_stays Mark q c h e = grind (arith, e)
point_stays Sign q c h e = grind (arith, e)
point_stays Exponent q c h e = grind (arith, e)
point_stays x q c h e = absurd cc

-- a byte leads into some parts, which no other byte leaves
record Leads (is : ℕ → Bool) (within : Part → Bool) : Type 0 where
  pub enters : (p q : Part) (c : ℕ) → is c ≡ true → next_part p c ≡ Some q → within q ≡ true
  pub stays : (p q : Part) (c : ℕ) → within p ≡ true → next_part p c ≡ Some q → within q ≡ true

stays_within : (is : ℕ → Bool) (within : Part → Bool) → Leads is within → (p q : Part) (s : List ℕ) → within p ≡ true → part_behind (Some p) s ≡ Some q → within q ≡ true
stays_within is within l p q [] h e = let same : p ≡ q = cc in subst (λ (r : Part). within r ≡ true) same h
stays_within is within l p q (c ∷ s) h e = told (next_part p c) refl e (λ r n f. stays_within is within l r q s (l.stays p r c h n) f)
  where
    told : (o : Option Part) → next_part p c ≡ o → part_behind o s ≡ Some q → ((r : Part) → next_part p c ≡ Some r → part_behind (Some r) s ≡ Some q → within q ≡ true) → within q ≡ true
    told None n f later = absurd (let none = sym (part_none s) ∙ f in cc)
    told (Some r) n f later = later r n f

-- so a number that doesn't end in these parts has no such byte
lacks : (is : ℕ → Bool) (within : Part → Bool) → Leads is within → (p q : Part) (s : List ℕ) → part_behind (Some p) s ≡ Some q → within q ≡ false → Lacks is s
lacks is within l p q [] e out = tt
lacks is within l p q (c ∷ s) e out = told (next_part p c) refl e (λ r f. lacks is within l r q s f out)
  where
    first : (r : Part) → next_part p c ≡ Some r → part_behind (Some r) s ≡ Some q → (b : Bool) → is c ≡ b → is c ≡ false
    first r n f true b = absurd (let inside = stays_within is within l r q s (l.enters p r c b n) f in let clash = sym inside ∙ out in cc)
    first r n f false b = b

    told : (o : Option Part) → next_part p c ≡ o → part_behind o s ≡ Some q → ((r : Part) → part_behind (Some r) s ≡ Some q → Lacks is s) → Lacks is (c ∷ s)
    told None n f later = absurd (let none = sym (part_none s) ∙ f in cc)
    told (Some r) n f later = (first r n f (is c) refl, later r f)

lacks_behind : (is : ℕ → Bool) (s : List ℕ) → Lacks is s → behind is s ≡ []
lacks_behind is [] h = refl
lacks_behind is (c ∷ s) h = rw h.0 (lacks_behind is s h.1)

lacks_before : (is : ℕ → Bool) (p : ℕ → Bool) (s : List ℕ) → Lacks is s → Lacks is (before p s)
lacks_before is p [] h = tt
lacks_before is p (c ∷ s) h = told (p c) (lacks_before is p s h.1)
  where
    told : (b : Bool) → Lacks is (before p s) → Lacks is (cond b [] (c ∷ before p s))
    told true more = tt
    told false more = (h.0, more)

lacks_magnitude : (is : ℕ → Bool) (s : List ℕ) → Lacks is s → Lacks is (magnitude s)
lacks_magnitude is [] h = tt
lacks_magnitude is (c ∷ s) h = told (c == 45)
  where
    told : (b : Bool) → Lacks is (cond b s (c ∷ s))
    told true = h.1
    told false = h

marks : Leads is_mark in_exponent
marks = record { enters = mark_enters; stays = mark_stays }

points : Leads is_point behind_point
points = record { enters = point_enters; stays = point_stays }

pub no_exponent : (p : Part) (s : List ℕ) → IsPart p s → in_exponent p ≡ false → exponent s ≡ []
no_exponent p s h out = lacks_behind is_mark (magnitude s) (lacks_magnitude is_mark s (lacks is_mark in_exponent marks Start p s h out))

pub no_fraction : (p : Part) (s : List ℕ) → IsPart p s → behind_point p ≡ false → fraction s ≡ []
no_fraction p s h out = lacks_behind is_point (significand s) (lacks_before is_point is_mark (magnitude s) (lacks_magnitude is_point s (lacks is_point behind_point points Start p s h out)))

-- a whole number of at most 18 bytes
pub whole_fits : (p : Part) (s : List ℕ) → IsPart p s → may_end p ≡ true → in_exponent p ≡ false → behind_point p ≡ false → length s ≤ 18 → is_over s ≡ false
whole_fits p s h ends no_exp no_frac few =
    let none = ap length (no_fraction p s h no_frac) in
    few_fit s (part_is_numeral p s ends h) (omega (arith, few)) (no_exponent p s h no_exp) (omega (arith, few, parts_length s)) (omega (arith, none))

-- a number of at most 9 bytes without an exponent
pub short_fits : (p : Part) (s : List ℕ) → IsPart p s → may_end p ≡ true → in_exponent p ≡ false → length s ≤ 9 → is_over s ≡ false
short_fits p s h ends no_exp few = few_fit s (part_is_numeral p s ends h) (omega (arith, few)) (no_exponent p s h no_exp) (omega (arith, few, parts_length s)) (omega (arith, few, parts_length s))
