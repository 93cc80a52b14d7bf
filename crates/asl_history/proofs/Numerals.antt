-- Where a number in plain decimal ends.
use Rattle.std.proofs.Common.{ℕ, zero, suc, ◌≡◌, ◌<◌, ◌≤◌, ◌+◌, ◌*◌, ◌/◌, ◌%◌, ◌^◌, List, [], ◌∷◌, ◌++◌, length, length-append, get_or, refl, sym, ◌∙◌, ap, arith, append_assoc}
use Rattle.std.specs.Prelude.{⊤}
use Rattle.std.proofs.Math.Nat.{pow-suc, one-le-pow}
use Rattle.std.specs.Fmt.{decimal}
use Rattle.std.proofs.lemmas.Fmt.{decimal_step, decimal_by_steps, decimal_digit, decimal_injective, decimal_nonempty, length-decimal-le, first_decimal}
use Rattle.asl_history.specs.Places.{EndsNumber}

-- each is a digit
abbrev pub AreDigits : List ℕ → Type 0
AreDigits [] = ⊤
AreDigits (c ∷ cs) = ((48 ≤ c) × (c ≤ 57)) × AreDigits cs

AreDigits-append : (ds : List ℕ) (c : ℕ) → AreDigits ds → 48 ≤ c → c ≤ 57 → AreDigits (ds ++ c ∷ [])
AreDigits-append [] c h low high = ((low, high), tt)
AreDigits-append (d ∷ ds) c h low high = (h.0, AreDigits-append ds c h.1 low high)

pub AreDigits-decimal : (n : ℕ) → n < 2 ^ 64 → AreDigits (decimal n)
AreDigits-decimal n l =
    decimal_by_steps (λ m ds. AreDigits ds) (λ m small. ((omega arith, omega arith), tt)) (λ m ds large h. AreDigits-append ds (48 + m % 10) h (omega arith) (omega arith)) n l

-- two numbers that end before what follows them are one
pub same_number : (xs ys us vs : List ℕ) → AreDigits xs → AreDigits ys → EndsNumber us → EndsNumber vs → xs ++ us ≡ ys ++ vs → (xs ≡ ys) × (us ≡ vs)
same_number [] [] us vs a b e f h = (refl, h)
same_number [] (y ∷ ys) [] vs a b e f h = cc
same_number [] (y ∷ ys) (u ∷ us) vs a b e f h = let same : u ≡ y = cc in absurd (e (omega arith) (omega arith))
same_number (x ∷ xs) [] us [] a b e f h = cc
same_number (x ∷ xs) [] us (v ∷ vs) a b e f h = let same : x ≡ v = cc in absurd (f (omega arith) (omega arith))
same_number (x ∷ xs) (y ∷ ys) us vs a b e f h =
    let rest : xs ++ us ≡ ys ++ vs = cc in
    let first : x ≡ y = cc in
    let r = same_number xs ys us vs a.1 b.1 e f rest in
    let front = r.0 in
    (cc, r.1)

-- where a digit follows, the number is longer
pub longer : (xs ys us vs : List ℕ) (c : ℕ) → AreDigits xs → AreDigits ys → 48 ≤ c → c ≤ 57 → EndsNumber vs → xs ++ c ∷ us ≡ ys ++ vs → length xs < length ys
longer [] [] us [] c a b low high f h = cc
longer [] [] us (v ∷ vs) c a b low high f h = let same : c ≡ v = cc in absurd (f (omega arith) (omega arith))
longer [] (y ∷ ys) us vs c a b low high f h = omega arith
longer (x ∷ xs) [] us [] c a b low high f h = cc
longer (x ∷ xs) [] us (v ∷ vs) c a b low high f h = let same : x ≡ v = cc in absurd (f (omega arith) (omega arith))
longer (x ∷ xs) (y ∷ ys) us vs c a b low high f h =
    let rest : xs ++ c ∷ us ≡ ys ++ vs = cc in
    let l = longer xs ys us vs c a.1 b.1 low high f rest in
    omega arith

long : (n : ℕ) → n < 2 ^ 64 → (k : ℕ) → 10 ^ k ≤ n → k < length (decimal n)
long n l zero h = decimal_nonempty n l
long n l (suc k) h =
    let some : 1 ≤ 10 ^ k = one-le-pow k 10 (omega arith) in
    let power : 10 ^ suc k ≡ 10 ^ k * 10 = pow-suc 10 k in
    let front = long (n / 10) (omega arith) k (omega arith) in
    let e = ap length (decimal_step n (omega arith) l) in
    omega (arith, e, front, length-append (decimal (n / 10)) ((48 + n % 10) ∷ []))

-- ---- what reading a number tells

pub ends_here : (v n : ℕ) (bs rest : List ℕ) → v < 10 ^ 9 → n < 10 ^ 9 → EndsNumber bs → EndsNumber rest → decimal v ++ bs ≡ decimal n ++ rest → (v ≡ n) × (bs ≡ rest)
ends_here v n bs rest l m e f h =
    let s = same_number (decimal v) (decimal n) bs rest (AreDigits-decimal v (omega arith)) (AreDigits-decimal n (omega arith)) e f h in
    (decimal_injective v n (omega arith) (omega arith) s.0, s.1)

pub too_long : (v n d : ℕ) (bs rest more : List ℕ) → 100_000_000 ≤ v → v < 10 ^ 9 → n < 10 ^ 9 → d < 10 → bs ≡ (48 + d) ∷ more → EndsNumber rest → decimal v ++ bs ≡ decimal n ++ rest → ⊥
too_long v n d bs rest more large l m small e f h =
    let next : decimal v ++ (48 + d) ∷ more ≡ decimal n ++ rest = rw (← e) h in
    let grows = longer (decimal v) (decimal n) more rest (48 + d) (AreDigits-decimal v (omega arith)) (AreDigits-decimal n (omega arith)) (omega arith) (omega arith) f next in
    let nine = long v (omega arith) 8 (omega arith) in
    let few = length-decimal-le 9 n (omega arith) m (omega arith) in
    absurd (omega arith)

decimal_next : (v d : ℕ) → 0 < v → v < 10 ^ 9 → d < 10 → decimal (v * 10 + d) ≡ decimal v ++ (48 + d) ∷ []
decimal_next v d pos l small =
    let front : (v * 10 + d) / 10 ≡ v = omega arith in
    let last : (v * 10 + d) % 10 ≡ d = omega arith in
    rw (front, last) at (decimal_step (v * 10 + d) (omega arith) (omega arith))

pub next_reads : (v d : ℕ) (bs rest : List ℕ) → 0 < v → v < 10 ^ 9 → d < 10 → bs ≡ (48 + d) ∷ rest → decimal v ++ bs ≡ decimal (v * 10 + d) ++ rest
next_reads v d bs rest pos l small e = rw (e, decimal_next v d pos l small, append_assoc) refl

pub no_number : (n : ℕ) (bs rest : List ℕ) → n < 10 ^ 9 → EndsNumber bs → EndsNumber rest → bs ≡ decimal n ++ rest → ⊥
no_number n bs rest l e f h =
    let s = same_number [] (decimal n) bs rest tt (AreDigits-decimal n (omega arith)) e f h in
    let empty = ap length s.0 in
    let some = decimal_nonempty n (omega arith) in
    absurd (omega arith)

first_of : (xs rest more : List ℕ) → 0 < length xs → xs ++ rest ≡ 48 ∷ more → get_or xs 0 0 ≡ 48
first_of [] rest more l h = absurd (omega arith)
first_of (x ∷ xs) rest more l h = cc

pub zero_reads : (d : ℕ) (bs rest : List ℕ) → d ≡ 0 → bs ≡ (48 + d) ∷ rest → bs ≡ decimal 0 ++ rest
zero_reads d bs rest e h = rw (decimal_digit 0 (omega arith)) (rw e at h)

zero_only : (n : ℕ) (rest more : List ℕ) → n < 10 ^ 9 → 48 ∷ more ≡ decimal n ++ rest → (0 ≡ n) × (more ≡ rest)
zero_only zero rest more l h = let e = decimal_digit 0 (omega arith) in (refl, cc)
zero_only (suc n) rest more l h =
    let first = first_of (decimal (suc n)) rest more (decimal_nonempty (suc n) (omega arith)) (sym h) in
    let above = first_decimal (suc n) (omega arith) (omega arith) in
    absurd (omega arith)

pub first_digit : (d : ℕ) (bs rest : List ℕ) → d < 10 → bs ≡ (48 + d) ∷ rest → bs ≡ decimal d ++ rest
first_digit d bs rest small h = rw (decimal_digit d small) h

pub zero_alone : (d n : ℕ) (bs rest more : List ℕ) → d ≡ 0 → n < 10 ^ 9 → bs ≡ (48 + d) ∷ more → bs ≡ decimal n ++ rest → (0 ≡ n) × (more ≡ rest)
zero_alone d n bs rest more e l h g = zero_only n rest more l (sym (rw e at h) ∙ g)
