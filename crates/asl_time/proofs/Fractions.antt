-- A fraction in front of an offset is read in one way.
use Rattle.std.proofs.Common.{◌≡◌, ◌<◌, ◌≤◌, ◌+◌, ◌*◌, ◌^◌, ◌⊎◌, inl, inr, ℕ, List, [], ◌∷◌, ◌++◌, length, ℤ, subst, sym, ◌∙◌, ap, arith, refl}
use Rattle.std.proofs.lemmas.List.Elements.{All-head, All-tail}
use Rattle.std.specs.Char.{digit_value, IsAsciiDigit}
use Rattle.std.proofs.lemmas.Bool.Decides.{nat_tests}
use Rattle.std.specs.List.{All}
use Rattle.std.specs.Str.Parse.{AllDigits, digits_value}
use Rattle.asl_time.specs.Timestamp.{secfrac, IsOffset, IsRoundedUp}
use Rattle.asl_time.specs.private.Parts.{BeginsWithFraction}
use Rattle.asl_time.proofs.Offsets.{offset_opens}

pub AllDigits-from_all : (ds : List ℕ) → All (λ c. digit_value c < 10) ds → AllDigits 10 ds
AllDigits-from_all [] h = tt
AllDigits-from_all (c ∷ cs) h =
    (All-head (λ c. digit_value c < 10) c cs h, AllDigits-from_all cs (All-tail (λ c. digit_value c < 10) c cs h))

-- no digit stands first
abbrev pub NoDigit : List ℕ → Type 0
NoDigit t = (c : ℕ) (rest : List ℕ) → digit_value c < 10 → t ≡ c ∷ rest → ⊥

-- two numbers of thousandths that a fraction rounds up to are one
same_times : (a b p v : ℕ) → 1000 * v ≤ a * p → a * p < 1000 * v + p → 1000 * v ≤ b * p → b * p < 1000 * v + p → a ≡ b
same_times a b p v h k l m = grind arith

pub rounded_one : (ds : List ℕ) (a b : ℕ) → IsRoundedUp ds a → IsRoundedUp ds b → a ≡ b
rounded_one ds a b h k = same_times a b (10 ^ length ds) (digits_value 10 ds) h.enough h.least k.enough k.least

-- the longest run of digits is one
longest_one : (f g x y : List ℕ) → AllDigits 10 f → AllDigits 10 g → NoDigit x → NoDigit y → f ++ x ≡ g ++ y → (f ≡ g) × (x ≡ y)
longest_one [] [] x y df dg nx ny e = (refl, e)
longest_one [] (c ∷ g) x y df dg nx ny e = absurd (nx c (g ++ y) dg.0 e)
longest_one (c ∷ f) [] x y df dg nx ny e = absurd (ny c (f ++ x) df.0 (sym e))
longest_one (c ∷ f) (d ∷ g) x y df dg nx ny e =
    let same : f ++ x ≡ g ++ y = cc in
    let h = longest_one f g x y df.1 dg.1 nx ny same in
    let front : f ≡ g = h.0 in
    (cc, h.1)

first_is : (a c : ℕ) (x y t : List ℕ) → t ≡ a ∷ x → t ≡ c ∷ y → c ≡ a
first_is a c x y t e f = cc

-- an offset begins with neither a digit nor a point
first_of_offset : (ahead : ℤ) (t : List ℕ) (c : ℕ) (rest : List ℕ) → IsOffset ahead t → t ≡ c ∷ rest → (c ≡ 90) ⊎ ((c ≡ 43) ⊎ (c ≡ 45))
first_of_offset ahead t c rest o e =
    let h = offset_opens ahead t o in
    elim h.1 [
      | inl f ↦ inl (first_is 90 c h.0 rest t f e)
      | inr (inl f) ↦ inr (inl (first_is 43 c h.0 rest t f e))
      | inr (inr f) ↦ inr (inr (first_is 45 c h.0 rest t f e))
    ]

no_sign_digit : (c : ℕ) → (c ≡ 90) ⊎ ((c ≡ 43) ⊎ (c ≡ 45)) → digit_value c < 10 → ⊥
no_sign_digit c (inl e) l = let v : digit_value c ≡ 35 = ap digit_value e in omega (arith, v)
no_sign_digit c (inr (inl e)) l = let v : digit_value c ≡ 36 = ap digit_value e in omega (arith, v)
no_sign_digit c (inr (inr e)) l = let v : digit_value c ≡ 36 = ap digit_value e in omega (arith, v)

pub offset_no_digit : (ahead : ℤ) (t : List ℕ) → IsOffset ahead t → NoDigit t
offset_no_digit ahead t o c rest l e = no_sign_digit c (first_of_offset ahead t c rest o e) l

no_sign_point : (c : ℕ) → (c ≡ 90) ⊎ ((c ≡ 43) ⊎ (c ≡ 45)) → c ≡ 46 → ⊥
no_sign_point c (inl e) f = omega arith
no_sign_point c (inr (inl e)) f = omega arith
no_sign_point c (inr (inr e)) f = omega arith

offset_no_point : (ahead : ℤ) (t rest : List ℕ) → IsOffset ahead t → t ≡ 46 ∷ rest → ⊥
offset_no_point ahead t rest o e = no_sign_point 46 (first_of_offset ahead t 46 rest o e) refl

pub secfrac_some : (c : ℕ) (cs : List ℕ) → secfrac (c ∷ cs) ≡ 46 ∷ (c ∷ cs)
secfrac_some c cs = refl

pub fraction_same : (t behind f x g zone : List ℕ) (ahead : ℤ) → t ≡ 46 ∷ behind → behind ≡ f ++ x → AllDigits 10 f → NoDigit x → AllDigits 10 g → IsOffset ahead zone → t ≡ secfrac g ++ zone → (g ≡ f) × (zone ≡ x) × (0 < length g)
fraction_same t behind f x [] zone ahead e b df nx dg o k = absurd (offset_no_point ahead zone behind o (sym k ∙ e))
fraction_same t behind f x (c ∷ cs) zone ahead e b df nx dg o k =
    let opened : t ≡ 46 ∷ ((c ∷ cs) ++ zone) = k in
    let same : f ++ x ≡ (c ∷ cs) ++ zone = cc in
    let h = longest_one f (c ∷ cs) x zone df dg nx (offset_no_digit ahead zone o) same in
    (sym h.0, sym h.1, omega arith)

-- behind a point stands a fraction, and its digits are the longest run
pub fraction_one : (t behind f x zone : List ℕ) (ahead : ℤ) (m n : ℕ) → t ≡ 46 ∷ behind → behind ≡ f ++ x → AllDigits 10 f → NoDigit x → IsRoundedUp f m → IsOffset ahead zone → BeginsWithFraction t n zone → (n ≡ m) × (zone ≡ x)
fraction_one t behind f x zone ahead m n e b df nx r o h =
    let s = fraction_same t behind f x h.fraction zone ahead e b df nx h.fraction_digits o h.text in
    let P : List ℕ → Type 0 = λ g. IsRoundedUp g n in
    let r' : IsRoundedUp f n = subst P s.0 h.rounded in
    (rounded_one f n m r' r, s.1)

pub fraction_none : (t behind f x zone : List ℕ) (ahead : ℤ) (n : ℕ) → t ≡ 46 ∷ behind → behind ≡ f ++ x → length f ≡ 0 → AllDigits 10 f → NoDigit x → IsOffset ahead zone → BeginsWithFraction t n zone → ⊥
fraction_none t behind f x zone ahead n e b z df nx o h =
    let s = fraction_same t behind f x h.fraction zone ahead e b df nx h.fraction_digits o h.text in
    let same : length h.fraction ≡ length f = ap length s.0 in
    omega (arith, s.2)

pub fraction_is : (t behind f x : List ℕ) (n : ℕ) → t ≡ 46 ∷ behind → behind ≡ f ++ x → 0 < length f → AllDigits 10 f → IsRoundedUp f n → BeginsWithFraction t n x
fraction_is t behind [] x n e b l df r = absurd (omega arith)
fraction_is t behind (c ∷ cs) x n e b l df r = record { fraction = c ∷ cs; fraction_digits = df; text = e ∙ ap (λ z. 46 ∷ z) b; rounded = r }

pub digit_small : (b : ℕ) → IsAsciiDigit b → digit_value b < 10
digit_small b h = grind (arith, nat_tests)
