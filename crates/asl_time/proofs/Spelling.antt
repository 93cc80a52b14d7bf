-- Numbers and their last digits.
use Rattle.std.proofs.Common.{◌≡◌, ◌<◌, ◌≤◌, ◌+◌, ◌-◌, ◌*◌, ◌^◌, ◌/◌, ◌%◌, ℕ, zero, suc, List, [], ◌∷◌, ◌++◌, length, sym, ◌∙◌, arith, append_assoc, length-append, refl}
use Rattle.std.proofs.Math.Nat.{pow-le-pow_right}
use native.Mathlib.Numerals.{unary_clauses}
use Rattle.asl_time.specs.Stamp.{digits}

pub grow : (count v d : ℕ) → 0 < count → v < 10 ^ (count - 1) → d < 10 → v * 10 + d < 10 ^ count
grow zero v d p l s = absurd (omega arith)
grow (suc k) v d p l s =
    let e : suc k - 1 ≡ k = omega arith in
    let m : v < 10 ^ k = rw e at l in
    simp unary_clauses (omega arith)

pub fits : (count n : ℕ) → count ≤ 9 → n < 10 ^ count → n < 1000000000
fits count n l s = let p : 10 ^ count ≤ 10 ^ 9 = pow-le-pow_right (omega arith) l in omega arith

pub digits_length : (k n : ℕ) → length (digits k n) ≡ k
unfolding digits
digits_length zero n = refl
digits_length (suc k) n = length-append (digits k (n / 10)) ((48 + n % 10) ∷ []) ∙ omega (arith, digits_length k (n / 10))

-- fronts of one length leave one rest
pub cut : (a b x y : List ℕ) → length a ≡ length b → a ++ x ≡ b ++ y → x ≡ y
cut [] [] x y l e = e
cut [] (c ∷ b) x y l e = absurd (omega arith)
cut (c ∷ a) [] x y l e = absurd (omega arith)
cut (c ∷ a) (d ∷ b) x y l e = cut a b x y (omega arith) (cc)

abbrev pub Fits : List ℕ → ℕ → Type 0
Fits t k = (n : ℕ) (rest : List ℕ) → t ≡ digits k n ++ rest → ⊥

pub no_front : (t : List ℕ) (count : ℕ) → 0 < count → Fits t (count - 1) → Fits t count
unfolding digits
no_front t zero p h n rest e = absurd (omega arith)
no_front t (suc k) p h n rest e =
    let s : suc k - 1 ≡ k = omega arith in
    let g : Fits t k = rw s at h in
    g (n / 10) ((48 + n % 10) ∷ rest) (e ∙ append_assoc (digits k (n / 10)) ((48 + n % 10) ∷ []) rest)

pub no_last : (t behind : List ℕ) (count v : ℕ) → 0 < count → t ≡ digits (count - 1) v ++ behind → ((d : ℕ) (rest : List ℕ) → d < 10 → behind ≡ (48 + d) ∷ rest → ⊥) → Fits t count
unfolding digits
no_last t behind zero v p f h n rest e = absurd (omega arith)
no_last t behind (suc k) v p f h n rest e =
    let s : suc k - 1 ≡ k = omega arith in
    let g : t ≡ digits k v ++ behind = rw s at f in
    let same : digits k v ++ behind ≡ digits k (n / 10) ++ ((48 + n % 10) ∷ rest) = sym g ∙ e ∙ append_assoc (digits k (n / 10)) ((48 + n % 10) ∷ []) rest in
    h (n % 10) rest (omega arith) (cut (digits k v) (digits k (n / 10)) behind ((48 + n % 10) ∷ rest) (digits_length k v ∙ sym (digits_length k (n / 10))) same)

-- so many digits spell one number
pub digits_one : (k a b : ℕ) (x y : List ℕ) → a < 10 ^ k → b < 10 ^ k → digits k a ++ x ≡ digits k b ++ y → (a ≡ b) × (x ≡ y)
unfolding digits
digits_one zero a b x y l m e = (omega arith, e)
digits_one (suc k) a b x y l m e =
    let l' : a / 10 < 10 ^ k = omega (arith, simp unary_clauses at l) in
    let m' : b / 10 < 10 ^ k = omega (arith, simp unary_clauses at m) in
    let same : digits k (a / 10) ++ ((48 + a % 10) ∷ x) ≡ digits k (b / 10) ++ ((48 + b % 10) ∷ y) = sym (append_assoc (digits k (a / 10)) ((48 + a % 10) ∷ []) x) ∙ e ∙ append_assoc (digits k (b / 10)) ((48 + b % 10) ∷ []) y in
    let h = digits_one k (a / 10) (b / 10) ((48 + a % 10) ∷ x) ((48 + b % 10) ∷ y) l' m' same in
    let first : 48 + a % 10 ≡ 48 + b % 10 = cc in
    let quotient : a / 10 ≡ b / 10 = h.0 in
    (omega arith, cc)
