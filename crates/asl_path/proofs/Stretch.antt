-- Stretches of a run.
use Rattle.std.proofs.Common.{◌≡◌, ◌<◌, ◌≤◌, ◌+◌, ◌-◌, ◌*◌, ◌==◌, ℕ, zero, suc, Bool, true, false, List, [], ◌∷◌, ◌++◌, length, take, drop, get_or, refl, sym, ◌∙◌, ap, arith, cond, append_assoc, add-one}
use Rattle.std.specs.Prelude.{Result, Err, nat_lt, nat_le, ◌&&◌, ◌||◌}
use Rattle.std.specs.Str.{IsUtf8}
use Rattle.std.proofs.lemmas.Str.{IsUtf8-take, IsUtf8-drop, IsCharBoundary-end, IsCharBoundary-before_ascii, IsCharBoundary-after_ascii}
use Rattle.std.proofs.lemmas.Bool.{eq-eqb}
use Rattle.std.proofs.lemmas.List.{append-nil, take-append-drop}
use Rattle.asl_path.specs.declared.step.Step.{Step}
use Rattle.asl_path.specs.declared.step.Step.TheVariants.{Name, Index}
use Rattle.asl_path.specs.Grammar.{is_name_byte, is_between, is_digit}
use Rattle.asl_path.specs.private.Steps.{between, dot, name, bracket, quoted, closing, digits, Next, go, stop, begin_step, onward, run}
use Rattle.asl_path.specs.Grammar.{Each}
use Rattle.asl_path.specs.private.Leads.{NotFirst}

pub each_more : (p : ℕ → Bool) (xs : List ℕ) (i : ℕ) → i < length xs → Each p (take i xs) → p (get_or xs i 0) ≡ true → Each p (take (i + 1) xs)
each_more p xs i lt h e = rw add-one (more xs i lt h e)
  where
    more : (xs : List ℕ) (i : ℕ) → i < length xs → Each p (take i xs) → p (get_or xs i 0) ≡ true → Each p (take (suc i) xs)
    more [] i lt h e = absurd (omega arith)
    more (x ∷ xs) zero lt h e = (e, tt)
    more (x ∷ xs) (suc i) lt h e = (h.0, more xs i (omega arith) h.1 e)

pub not_first : (p : ℕ → Bool) (xs : List ℕ) (i : ℕ) → (i < length xs → p (get_or xs i 0) ≡ false) → NotFirst p (drop i xs)
not_first p [] zero h = tt
not_first p [] (suc i) h = tt
not_first p (x ∷ xs) zero h = h (omega arith)
not_first p (x ∷ xs) (suc i) h = not_first p xs i (λ lt. h (omega arith))

abbrev pub on : Next → List ℕ → Result (List Step) ℕ
on n cs = onward n (suc (length cs)) (λ m d. run m d cs)

-- a name goes on
name_run : (n s rest : List ℕ) (done : List Step) → Each is_name_byte s → run (name n) done (s ++ rest) ≡ run (name (n ++ s)) done rest
name_run n [] rest done h = ap (λ (z : List ℕ). run (name z) done rest) (sym (append-nil n))
name_run n (c ∷ s) rest done h =
    ap (λ b. on (cond b (go (name (n ++ c ∷ [])) done) (begin_step (done ++ Name n ∷ []) c)) (s ++ rest)) h.0
    ∙ name_run (n ++ c ∷ []) s rest done h.1
    ∙ ap (λ (z : List ℕ). run (name z) done rest) (append_assoc n (c ∷ []) s)

-- a name ends
name_end : (n rest : List ℕ) (done : List Step) → NotFirst is_name_byte rest → run (name n) done rest ≡ run between (done ++ Name n ∷ []) rest
name_end n [] done h = refl
name_end n (c ∷ cs) done h = ap (λ b. on (cond b (go (name (n ++ c ∷ [])) done) (begin_step (done ++ Name n ∷ []) c)) cs) h

pub dot_none : (rest : List ℕ) (done : List Step) → NotFirst is_name_byte rest → run dot done rest ≡ Err (length rest)
dot_none [] done h = refl
dot_none (c ∷ cs) done h = ap (λ b. on (cond b (go (name (c ∷ [])) done) stop) cs) h

pub dot_some : (s rest : List ℕ) (done : List Step) → 0 < length s → Each is_name_byte s → NotFirst is_name_byte rest → run dot done (s ++ rest) ≡ run between (done ++ Name s ∷ []) rest
dot_some [] rest done l h e = absurd (omega arith)
dot_some (c ∷ s) rest done l h e =
    ap (λ b. on (cond b (go (name (c ∷ [])) done) stop) (s ++ rest)) h.0
    ∙ name_run (c ∷ []) s rest done h.1
    ∙ name_end (c ∷ s) rest done e

length_take : (xs : List ℕ) (i : ℕ) → i ≤ length xs → length (take i xs) ≡ i
length_take [] zero l = refl
length_take [] (suc i) l = absurd (omega arith)
length_take (x ∷ xs) zero l = refl
length_take (x ∷ xs) (suc i) l = ap suc (length_take xs i (omega arith))

pub dot_reads : (xs : List ℕ) (i : ℕ) (done : List Step) → 0 < i → i ≤ length xs → Each is_name_byte (take i xs) → NotFirst is_name_byte (drop i xs) → run dot done xs ≡ run between (done ++ Name (take i xs) ∷ []) (drop i xs)
dot_reads xs i done l w h e =
    ap (λ (z : List ℕ). run dot done z) (sym (take-append-drop i xs))
    ∙ dot_some (take i xs) (drop i xs) done (omega (arith, length_take xs i w)) h e

name_ascii : (c : ℕ) → is_name_byte c ≡ false → c < 128
unfolding is_name_byte
name_ascii c e = small (nat_le 128 c) refl
  where
    small : (b : Bool) → nat_le 128 c ≡ b → c < 128
    small true h = absurd (grind (arith, e, h))
    small false h = grind (arith, h)

pub utf8_cut : (xs : List ℕ) (i : ℕ) → IsUtf8 xs → i ≤ length xs → (i < length xs → get_or xs i 0 < 128) → IsUtf8 (take i xs) × IsUtf8 (drop i xs)
utf8_cut xs i u le small = at (nat_lt i (length xs)) refl
  where
    at : (b : Bool) → nat_lt i (length xs) ≡ b → IsUtf8 (take i xs) × IsUtf8 (drop i xs)
    at true e =
        let lt : i < length xs = grind (arith, e) in
        let b = IsCharBoundary-before_ascii xs i lt (small lt) in
        (IsUtf8-take xs i u b, IsUtf8-drop xs i u b)
    at false e =
        let same : i ≡ length xs = grind (arith, e, le) in
        let b = IsCharBoundary-end xs in
        (rw same (IsUtf8-take xs (length xs) u b), rw same (IsUtf8-drop xs (length xs) u b))

pub name_cut : (xs : List ℕ) (i : ℕ) → IsUtf8 xs → i ≤ length xs → (i < length xs → is_name_byte (get_or xs i 0) ≡ false) → IsUtf8 (take i xs) × IsUtf8 (drop i xs)
name_cut xs i u le h = utf8_cut xs i u le (λ lt. name_ascii (get_or xs i 0) (h lt))

pub utf8_rest : (xs : List ℕ) → 0 < length xs → get_or xs 0 0 < 128 → IsUtf8 xs → IsUtf8 (drop 1 xs)
utf8_rest xs lt e u = IsUtf8-drop xs 1 u (IsCharBoundary-after_ascii xs 0 u lt e)

between_ascii : (q c : ℕ) → q < 128 → is_between q c ≡ false → c < 128
unfolding is_between
between_ascii q c lt e = small (c == q) refl
  where
    small : (b : Bool) → (c == q) ≡ b → c < 128
    small true h = grind (arith, h, lt)
    small false h = grind (arith, e, h)

pub quoted_cut : (q : ℕ) (xs : List ℕ) (i : ℕ) → q < 128 → IsUtf8 xs → i ≤ length xs → (i < length xs → is_between q (get_or xs i 0) ≡ false) → IsUtf8 (take i xs) × IsUtf8 (drop i xs)
quoted_cut q xs i a u le h = utf8_cut xs i u le (λ lt. between_ascii q (get_or xs i 0) a (h lt))

-- a quoted name goes on
pub quoted_run : (q : ℕ) (n s rest : List ℕ) (done : List Step) → Each (is_between q) s → run (quoted q n) done (s ++ rest) ≡ run (quoted q (n ++ s)) done rest
quoted_run q n [] rest done h = ap (λ (z : List ℕ). run (quoted q z) done rest) (sym (append-nil n))
quoted_run q n (c ∷ s) rest done h =
    ap (λ b. on (cond b (go (quoted q (n ++ c ∷ [])) done) (cond (c == q) (go (closing n) done) stop)) (s ++ rest)) h.0
    ∙ quoted_run q (n ++ c ∷ []) s rest done h.1
    ∙ ap (λ (z : List ℕ). run (quoted q z) done rest) (append_assoc n (c ∷ []) s)

at_quote : (q : ℕ) (n rest : List ℕ) (done : List Step) → NotFirst (is_between q) rest → NotFirst (λ c. c == q) rest → run (quoted q n) done rest ≡ Err (length rest)
at_quote q n [] done h e = refl
at_quote q n (c ∷ cs) done h e =
    ap (λ b. on (cond b (go (quoted q (n ++ c ∷ [])) done) (cond (c == q) (go (closing n) done) stop)) cs) h
    ∙ ap (λ b. on (cond b (go (closing n) done) stop) cs) e

no_quote_between : (q : ℕ) → is_between q q ≡ false
unfolding is_between
no_quote_between q = rw (eq-eqb q q refl) refl

pub quote_closes : (q : ℕ) (n cs : List ℕ) (done : List Step) → run (quoted q n) done (q ∷ cs) ≡ run (closing n) done cs
quote_closes q n cs done =
    ap (λ b. on (cond b (go (quoted q (n ++ q ∷ [])) done) (cond (q == q) (go (closing n) done) stop)) cs) (no_quote_between q)
    ∙ ap (λ b. on (cond b (go (closing n) done) stop) cs) (eq-eqb q q refl)

closing_stuck : (n rest : List ℕ) (done : List Step) → NotFirst (λ c. c == 93) rest → run (closing n) done rest ≡ Err (length rest)
closing_stuck n [] done h = refl
closing_stuck n (c ∷ cs) done h = ap (λ b. on (cond b (go between (done ++ Name n ∷ [])) stop) cs) h

pub quoted_front : (q : ℕ) (xs : List ℕ) (i : ℕ) (done : List Step) → Each (is_between q) (take i xs) → run (quoted q []) done xs ≡ run (quoted q (take i xs)) done (drop i xs)
quoted_front q xs i done h = ap (λ (z : List ℕ). run (quoted q []) done z) (sym (take-append-drop i xs)) ∙ quoted_run q [] (take i xs) (drop i xs) done h

pub quoted_open : (q : ℕ) (xs : List ℕ) (i : ℕ) (done : List Step) → Each (is_between q) (take i xs) → NotFirst (is_between q) (drop i xs) → NotFirst (λ c. c == q) (drop i xs) → run (quoted q []) done xs ≡ Err (length (drop i xs))
quoted_open q xs i done h e f = quoted_front q xs i done h ∙ at_quote q (take i xs) (drop i xs) done e f

pub quoted_halts : (q : ℕ) (xs behind : List ℕ) (i : ℕ) (done : List Step) → Each (is_between q) (take i xs) → drop i xs ≡ q ∷ behind → NotFirst (λ c. c == 93) behind → run (quoted q []) done xs ≡ Err (length behind)
quoted_halts q xs behind i done h e f = quoted_front q xs i done h ∙ ap (λ (z : List ℕ). run (quoted q (take i xs)) done z) e ∙ quote_closes q (take i xs) behind done ∙ closing_stuck (take i xs) behind done f

pub quoted_reads : (q : ℕ) (xs behind next : List ℕ) (i : ℕ) (done : List Step) → Each (is_between q) (take i xs) → drop i xs ≡ q ∷ behind → behind ≡ 93 ∷ next → run (quoted q []) done xs ≡ run between (done ++ Name (take i xs) ∷ []) next
quoted_reads q xs behind next i done h e f = quoted_front q xs i done h ∙ ap (λ (z : List ℕ). run (quoted q (take i xs)) done z) e ∙ quote_closes q (take i xs) behind done ∙ ap (λ (z : List ℕ). run (closing (take i xs)) done z) f

pub digit_bounds : (c : ℕ) → is_digit c ≡ true → (48 ≤ c) × (c ≤ 57)
unfolding is_digit
digit_bounds c e = (grind (arith, e), grind (arith, e))

and_off : (b : Bool) → (b && false) ≡ false
and_off true = refl
and_off false = refl

bracket_no_digit : is_digit 93 ≡ false
unfolding is_digit
bracket_no_digit = refl

pub digits_end : (k v : ℕ) (bytes cs : List ℕ) (done : List Step) → bytes ≡ 93 ∷ cs → run (digits k v) done bytes ≡ run between (done ++ Index v ∷ []) cs
digits_end k v bytes cs done e =
    ap (λ (z : List ℕ). run (digits k v) done z) e
    ∙ ap (λ b. on (cond (nat_lt k 9 && b) (go (digits (k + 1) (v * 10 + (93 - 48))) done) (cond (93 == 93) (go between (done ++ Index v ∷ [])) stop)) cs) bracket_no_digit
    ∙ ap (λ b. on (cond b (go (digits (k + 1) (v * 10 + (93 - 48))) done) (cond (93 == 93) (go between (done ++ Index v ∷ [])) stop)) cs) (and_off (nat_lt k 9))

pub digits_full : (v : ℕ) (bytes : List ℕ) (done : List Step) → NotFirst (λ c. c == 93) bytes → run (digits 9 v) done bytes ≡ Err (length bytes)
digits_full v [] done e = refl
digits_full v (c ∷ cs) done e = ap (λ b. on (cond b (go between (done ++ Index v ∷ [])) stop) cs) e

pub digits_stuck : (k v : ℕ) (bytes : List ℕ) (done : List Step) → NotFirst (λ c. c == 93) bytes → NotFirst is_digit bytes → run (digits k v) done bytes ≡ Err (length bytes)
digits_stuck k v [] done e h = refl
digits_stuck k v (c ∷ cs) done e h =
    ap (λ b. on (cond (nat_lt k 9 && b) (go (digits (k + 1) (v * 10 + (c - 48))) done) (cond (c == 93) (go between (done ++ Index v ∷ [])) stop)) cs) h
    ∙ ap (λ b. on (cond b (go (digits (k + 1) (v * 10 + (c - 48))) done) (cond (c == 93) (go between (done ++ Index v ∷ [])) stop)) cs) (and_off (nat_lt k 9))
    ∙ ap (λ b. on (cond b (go between (done ++ Index v ∷ [])) stop) cs) e

digit_is : (d : ℕ) → d < 10 → is_digit (48 + d) ≡ true
unfolding is_digit
digit_is d l = grind (arith, l)

pub less_than : (k : ℕ) → k < 9 → nat_lt k 9 ≡ true
less_than k l = grind (arith, l)

pub digits_next : (k v d : ℕ) (bytes cs : List ℕ) (done : List Step) → k < 9 → d < 10 → bytes ≡ (48 + d) ∷ cs → run (digits k v) done bytes ≡ run (digits (k + 1) (v * 10 + d)) done cs
digits_next k v d bytes cs done l s e =
    let m : (48 + d) - 48 ≡ d = omega arith in
    ap (λ (z : List ℕ). run (digits k v) done z) e
    ∙ ap (λ b. on (cond (b && is_digit (48 + d)) (go (digits (k + 1) (v * 10 + ((48 + d) - 48))) done) (cond ((48 + d) == 93) (go between (done ++ Index v ∷ [])) stop)) cs) (less_than k l)
    ∙ ap (λ b. on (cond b (go (digits (k + 1) (v * 10 + ((48 + d) - 48))) done) (cond ((48 + d) == 93) (go between (done ++ Index v ∷ [])) stop)) cs) (digit_is d s)
    ∙ ap (λ n. run (digits (k + 1) (v * 10 + n)) done cs) m

drop_first : (xs : List ℕ) → 0 < length xs → xs ≡ get_or xs 0 0 ∷ drop 1 xs
drop_first [] l = absurd (omega arith)
drop_first (x ∷ xs) l = refl

pub digit_first : (xs : List ℕ) (n : ℕ) → 0 < length xs → is_digit (get_or xs 0 0) ≡ true → n ≡ get_or xs 0 0 - 48 → (xs ≡ (48 + n) ∷ drop 1 xs) × (n < 10)
digit_first xs n l e is =
    let b = digit_bounds (get_or xs 0 0) e in
    let same : get_or xs 0 0 ≡ 48 + n = omega (arith, b.0) in
    (drop_first xs l ∙ ap (λ (z : ℕ). z ∷ drop 1 xs) same, omega (arith, b.0, b.1))

pub bracket_digit : (d : ℕ) (bytes cs : List ℕ) (done : List Step) → d < 10 → bytes ≡ (48 + d) ∷ cs → run bracket done bytes ≡ run (digits 1 d) done cs
bracket_digit d bytes cs done s e =
    let m : (48 + d) - 48 ≡ d = omega arith in
    let q : ((48 + d) == 39) || ((48 + d) == 34) ≡ false = grind arith in
    ap (λ (z : List ℕ). run bracket done z) e
    ∙ ap (λ b. on (cond b (go (quoted (48 + d) []) done) (cond (is_digit (48 + d)) (go (digits 1 ((48 + d) - 48)) done) stop)) cs) q
    ∙ ap (λ b. on (cond b (go (digits 1 ((48 + d) - 48)) done) stop) cs) (digit_is d s)
    ∙ ap (λ n. run (digits 1 n) done cs) m
