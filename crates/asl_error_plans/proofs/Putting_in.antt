-- The answers of a response with an error put in.
use Rattle.std.proofs.Common.{◌≡◌, ◌<◌, ◌≤◌, ◌+◌, ◌-◌, ℕ, suc, List, [], ◌∷◌, ◌++◌, Bool, append_assoc, true, false, refl, sym, ap, ◌∙◌, arith}
use Rattle.std.specs.Prelude.{nat_lt, nat_le, nat_eq, ◌&&◌, ◌||◌, Option, Some, None, if◌then◌else◌}
use Rattle.std.specs.List.{flat_map}
use Rattle.std.proofs.lemmas.Bool.Decides.{nat_tests}
use Rattle.asl_mock.specs.Answers.{has_number, first_with}
use Rattle.asl_mock.specs.private.Apart.{EachRanged, AreApart}
use Rattle.asl_mock.specs.declared.response.Answer.{Answer}
use Rattle.asl_mock.specs.declared.response.Ranged.{Ranged}
use Rattle.asl_error_plans.specs.Injected.{answer_put}
use Rattle.asl_error_plans.specs.Spans.{first_behind, error_span, part, earlier, later, put_in}

-- ---- which answer is the first with a number

found : (k : ℕ) (r : Ranged) (rs : List Ranged) (b : Bool) → has_number k r ≡ b → first_with k (r ∷ rs) ≡ (if b then Some r.answer else first_with k rs)
found k r rs b e = ap (λ (x : Bool). if x then Some r.answer else first_with k rs) e

pub none_with : (k : ℕ) (xs ys : List Ranged) → EachRanged (λ (x : Ranged). has_number k x ≡ false) xs → first_with k (xs ++ ys) ≡ first_with k ys
none_with k [] ys h = refl
none_with k (x ∷ xs) ys h = found k x (xs ++ ys) false h.0 ∙ none_with k xs ys h.1

pub none_with_any : (k : ℕ) (xs : List Ranged) → EachRanged (λ (x : Ranged). has_number k x ≡ false) xs → first_with k xs ≡ None
none_with_any k [] h = refl
none_with_any k (x ∷ xs) h = found k x xs false h.0 ∙ none_with_any k xs h.1

-- of each part of a response, alike at another number
pub alike : (k j : ℕ) (f : Ranged → List Ranged) (rs ys : List Ranged) (o : Option Answer)
    → ((r : Ranged) (zs : List Ranged) → first_with k (f r ++ zs) ≡ (if has_number j r then Some r.answer else first_with k zs))
    → first_with k ys ≡ None → first_with k (flat_map f rs ++ ys) ≡ first_with j rs
alike k j f [] ys o one none = none
alike k j f (r ∷ rs) ys o one none = assoc ∙ one r (flat_map f rs ++ ys) ∙ ap (λ (x : Option Answer). if has_number j r then Some r.answer else x) (alike k j f rs ys o one none)
  where
    assoc : first_with k ((f r ++ flat_map f rs) ++ ys) ≡ first_with k (f r ++ (flat_map f rs ++ ys))
    assoc = ap (first_with k) (append_assoc (f r) (flat_map f rs) ys)

-- ---- each of some answers

each_append : (P : Ranged → Type 0) (xs ys : List Ranged) → EachRanged P xs → EachRanged P ys → EachRanged P (xs ++ ys)
each_append P [] ys h g = g
each_append P (x ∷ xs) ys h g = (h.0, each_append P xs ys h.1 g)

each_flat : (P Q : Ranged → Type 0) (f : Ranged → List Ranged) (rs : List Ranged) → ((r : Ranged) → P r → EachRanged Q (f r)) → EachRanged P rs → EachRanged Q (flat_map f rs)
each_flat P Q f [] one h = tt
each_flat P Q f (r ∷ rs) one h = each_append Q (f r) (flat_map f rs) (one r h.0) (each_flat P Q f rs one h.1)

each_any : (P : Ranged → Type 0) (rs : List Ranged) → ((r : Ranged) → P r) → EachRanged P rs
each_any P [] h = tt
each_any P (r ∷ rs) h = (h r, each_any P rs h)

each_map : (P Q : Ranged → Type 0) (rs : List Ranged) → ((r : Ranged) → P r → Q r) → EachRanged P rs → EachRanged Q rs
each_map P Q [] h e = tt
each_map P Q (r ∷ rs) h e = (h r e.0, each_map P Q rs h e.1)

pub apart_append : (m : ℕ) (xs ys : List Ranged) → AreApart xs → AreApart ys → EachRanged (λ (x : Ranged). x.span.high < m) xs → EachRanged (λ (y : Ranged). m ≤ y.span.low) ys → AreApart (xs ++ ys)
apart_append m [] ys h g under over = g
apart_append m (x ∷ xs) ys h g under over =
    let u = under.0 in (
      h.0,
      (
        each_append (λ (y : Ranged). x.span.high < y.span.low) xs ys h.1.0 (each_map (λ (y : Ranged). m ≤ y.span.low) (λ (y : Ranged). x.span.high < y.span.low) ys (λ r l. omega (arith, u, l)) over),
        apart_append m xs ys h.1.1 g under.1 over,
      ),
    )

-- parts of answers that are apart, each moved by at most d
pub apart_flat : (d : ℕ) (f : Ranged → List Ranged) (rs : List Ranged)
    → ((r : Ranged) → r.span.low ≤ r.span.high → AreApart (f r))
    → ((r : Ranged) → EachRanged (λ (x : Ranged). x.span.high < suc (r.span.high + d)) (f r))
    → ((r : Ranged) → EachRanged (λ (x : Ranged). r.span.low + d ≤ x.span.low) (f r))
    → AreApart rs → AreApart (flat_map f rs)
apart_flat d f [] own high low h = tt
apart_flat d f (r ∷ rs) own high low h = apart_append (suc (r.span.high + d)) (f r) (flat_map f rs) (own r h.0) (apart_flat d f rs own high low h.1.1) (high r)
    (each_flat (λ (x : Ranged). r.span.high < x.span.low) (λ (x : Ranged). suc (r.span.high + d) ≤ x.span.low) f rs
    (λ x lt. each_map (λ (y : Ranged). x.span.low + d ≤ y.span.low) (λ (y : Ranged). suc (r.span.high + d) ≤ y.span.low) (f x) (λ y l. omega (arith, lt, l)) (low x)) h.1.0)

-- ---- the parts before and behind

le_same : (a b c d : ℕ) → (a ≤ b → c ≤ d) → (c ≤ d → a ≤ b) → nat_le a b ≡ nat_le c d
le_same a b c d f g = by (nat_le a b) (nat_le c d) refl refl
  where
    by : (x y : Bool) → nat_le a b ≡ x → nat_le c d ≡ y → nat_le a b ≡ nat_le c d
    by true true e h = e ∙ sym h
    by false false e h = e ∙ sym h
    by true false e h = let l = f (grind (arith, nat_tests, e)) in absurd (grind (arith, nat_tests, h, l))
    by false true e h = let l = g (grind (arith, nat_tests, h)) in absurd (grind (arith, nat_tests, e, l))

each_before : (P : Ranged → Type 0) (n : ℕ) (r : Ranged) → ((h : ℕ) → h ≤ r.span.high → h < n → P (record { span = record { low = r.span.low; high = h }; answer = r.answer })) → EachRanged P (earlier n r)
each_before P n r one = by (nat_lt r.span.low n) (nat_lt r.span.high n) refl refl
  where
    by : (b c : Bool) → nat_lt r.span.low n ≡ b → nat_lt r.span.high n ≡ c → EachRanged P (part r.answer (if b then Some (record { low = r.span.low; high = if c then r.span.high else n - 1 }) else None))
    by true true e f = (one r.span.high (omega arith) (grind (arith, nat_tests, f)), tt)
    by true false e f = (one (n - 1) (grind (arith, nat_tests, f)) (grind (arith, nat_tests, e)), tt)
    by false c e f = tt

own_before : (n : ℕ) (r : Ranged) → r.span.low ≤ r.span.high → AreApart (earlier n r)
own_before n r h = by (nat_lt r.span.low n) (nat_lt r.span.high n) refl refl
  where
    by : (b c : Bool) → nat_lt r.span.low n ≡ b → nat_lt r.span.high n ≡ c → AreApart (part r.answer (if b then Some (record { low = r.span.low; high = if c then r.span.high else n - 1 }) else None))
    by true true e f = (h, (tt, tt))
    by true false e f = (grind (arith, nat_tests, e, f), (tt, tt))
    by false c e f = tt

one_before : (k n : ℕ) → k < n → (r : Ranged) (zs : List Ranged) → first_with k (earlier n r ++ zs) ≡ (if has_number k r then Some r.answer else first_with k zs)
one_before k n lt r zs = by (nat_lt r.span.low n) (nat_lt r.span.high n) refl refl
  where
    by : (b c : Bool) → nat_lt r.span.low n ≡ b → nat_lt r.span.high n ≡ c
        → first_with k (part r.answer (if b then Some (record { low = r.span.low; high = if c then r.span.high else n - 1 }) else None) ++ zs) ≡ (if has_number k r then Some r.answer else first_with k zs)
    by true true e f = refl
    by true false e f =
        let same : nat_le k (n - 1) ≡ nat_le k r.span.high = le_same k (n - 1) k r.span.high (λ l. grind (arith, nat_tests, f, lt)) (λ l. omega (arith, lt)) in
        ap (λ (b : Bool). if nat_le r.span.low k && b then Some r.answer else first_with k zs) same
    by false c e f =
        let test : has_number k r ≡ false = grind (arith, nat_tests, e, lt) in
        ap (λ (b : Bool). if b then Some r.answer else first_with k zs) (sym test)

each_behind : (P : Ranged → Type 0) (n : ℕ) (r : Ranged) → ((l h : ℕ) → r.span.low + 1 ≤ l → n + 1 ≤ l → h ≤ r.span.high + 1 → P (record { span = record { low = l; high = h }; answer = r.answer })) → EachRanged P (later n r)
each_behind P n r one = by (nat_lt r.span.high n || nat_eq (first_behind n r.span) 4294967295) (nat_eq r.span.high 4294967295) refl
  where
    low : (b : Bool) → nat_lt r.span.low n ≡ b → r.span.low + 1 ≤ (if b then n else r.span.low) + 1
    low true e = grind (arith, nat_tests, e)
    low false e = omega arith

    number : (b : Bool) → nat_lt r.span.low n ≡ b → n + 1 ≤ (if b then n else r.span.low) + 1
    number true e = omega arith
    number false e = grind (arith, nat_tests, e)

    by : (b c : Bool) → nat_eq r.span.high 4294967295 ≡ c → EachRanged P (part r.answer (if b then None else Some (record { low = first_behind n r.span + 1; high = if c then 4294967295 else r.span.high + 1 })))
    by true c f = tt
    by false true f = (one (first_behind n r.span + 1) 4294967295 (low (nat_lt r.span.low n) refl) (number (nat_lt r.span.low n) refl) (grind (arith, nat_tests, f)), tt)
    by false false f = (one (first_behind n r.span + 1) (r.span.high + 1) (low (nat_lt r.span.low n) refl) (number (nat_lt r.span.low n) refl) (omega arith), tt)

own_behind : (n : ℕ) (r : Ranged) → r.span.low ≤ r.span.high → AreApart (later n r)
own_behind n r h = by (nat_lt r.span.high n) (nat_eq (first_behind n r.span) 4294967295) (nat_eq r.span.high 4294967295) refl refl refl
  where
    first : (b : Bool) → nat_lt r.span.low n ≡ b → nat_lt r.span.high n ≡ false → (if b then n else r.span.low) ≤ r.span.high
    first true e g = grind (arith, nat_tests, g)
    first false e g = h

    by : (b d c : Bool) → nat_lt r.span.high n ≡ b → nat_eq (first_behind n r.span) 4294967295 ≡ d → nat_eq r.span.high 4294967295 ≡ c → AreApart (part r.answer (if b || d then None else Some (record { low = first_behind n r.span + 1; high = if c then 4294967295 else r.span.high + 1 })))
    by true d c g e f = tt
    by false true c g e f = tt
    by false false true g e f =
        let l = first (nat_lt r.span.low n) refl g in
        (grind (arith, nat_tests, e, l, f), (tt, tt))
    by false false false g e f =
        let l = first (nat_lt r.span.low n) refl g in
        (omega (arith, l), (tt, tt))

one_behind : (k n : ℕ) → n < k → k ≤ 4294967295 → (r : Ranged) (zs : List Ranged) → first_with k (later n r ++ zs) ≡ (if has_number (k - 1) r then Some r.answer else first_with k zs)
one_behind k n lt top r zs = by (nat_lt r.span.high n) (nat_eq (first_behind n r.span) 4294967295) (nat_eq r.span.high 4294967295) refl refl refl
  where
    lower : (b : Bool) → nat_lt r.span.low n ≡ b → nat_le ((if b then n else r.span.low) + 1) k ≡ nat_le r.span.low (k - 1)
    lower true e = le_same (n + 1) k r.span.low (k - 1) (λ l. grind (arith, nat_tests, e, lt)) (λ l. omega (arith, lt))
    lower false e = le_same (r.span.low + 1) k r.span.low (k - 1) (λ l. omega (arith, l)) (λ l. omega (arith, l, lt))

    past : (b : Bool) → nat_lt r.span.low n ≡ b → nat_eq (if b then n else r.span.low) 4294967295 ≡ true → has_number (k - 1) r ≡ false
    past true e f = absurd (grind (arith, nat_tests, f, lt, top))
    past false e f = grind (arith, nat_tests, f, lt, top)

    none : has_number (k - 1) r ≡ false → first_with k zs ≡ (if has_number (k - 1) r then Some r.answer else first_with k zs)
    none test = ap (λ (b : Bool). if b then Some r.answer else first_with k zs) (sym test)

    by : (b d c : Bool) → nat_lt r.span.high n ≡ b → nat_eq (first_behind n r.span) 4294967295 ≡ d → nat_eq r.span.high 4294967295 ≡ c
        → first_with k (part r.answer (if b || d then None else Some (record { low = first_behind n r.span + 1; high = if c then 4294967295 else r.span.high + 1 })) ++ zs) ≡ (if has_number (k - 1) r then Some r.answer else first_with k zs)
    by true d c g e f = none (grind (arith, nat_tests, g, lt))
    by false true c g e f = none (past (nat_lt r.span.low n) refl e)
    by false false true g e f =
        ap (λ (b : Bool). if b && nat_le k 4294967295 then Some r.answer else first_with k zs) (lower (nat_lt r.span.low n) refl)
        ∙ ap (λ (b : Bool). if nat_le r.span.low (k - 1) && b then Some r.answer else first_with k zs) (le_same k 4294967295 (k - 1) r.span.high (λ l. grind (arith, nat_tests, f, top)) (λ l. top))
    by false false false g e f =
        ap (λ (b : Bool). if b && nat_le k (r.span.high + 1) then Some r.answer else first_with k zs) (lower (nat_lt r.span.low n) refl)
        ∙ ap (λ (b : Bool). if nat_le r.span.low (k - 1) && b then Some r.answer else first_with k zs) (le_same k (r.span.high + 1) (k - 1) r.span.high (λ l. omega (arith, l, lt)) (λ l. omega (arith, l, lt)))

-- ---- all of it

apart_later : (n : ℕ) (rs : List Ranged) → AreApart rs → AreApart (flat_map (later n) rs)
apart_later n rs h = apart_flat 1 (later n) rs (λ r o. own_behind n r o) (λ r. each_behind (λ (x : Ranged). x.span.high < suc (r.span.high + 1)) n r (λ l k a b c. omega (arith, c))) (λ r. each_behind (λ (x : Ranged). r.span.low + 1 ≤ x.span.low) n r (λ l k a b c. a)) h

apart_earlier : (n : ℕ) (rs : List Ranged) → AreApart rs → AreApart (flat_map (earlier n) rs)
apart_earlier n rs h = apart_flat 0 (earlier n) rs (λ r o. own_before n r o) (λ r. each_before (λ (x : Ranged). x.span.high < suc (r.span.high + 0)) n r (λ k l u. omega (arith, l))) (λ r. each_before (λ (x : Ranged). r.span.low + 0 ≤ x.span.low) n r (λ k l u. omega arith)) h

pub put_apart : (n : ℕ) (for_good : Bool) (e : Answer) (rs : List Ranged) → n ≤ 4294967295 → AreApart rs → AreApart (put_in n for_good e rs)
put_apart n for_good e rs fits h = apart_append n (flat_map (earlier n) rs) _ (apart_earlier n rs h) (rest for_good)
    (each_flat (λ (x : Ranged). Unit {0}) (λ (x : Ranged). x.span.high < n) (earlier n) rs (λ r u. each_before (λ (x : Ranged). x.span.high < n) n r (λ k l u. u)) (each_any (λ (x : Ranged). Unit {0}) rs (λ r. tt)))
    (omega arith, over for_good)
  where
    over_later : EachRanged (λ (y : Ranged). n < y.span.low) (flat_map (later n) rs)
    over_later = each_flat (λ (x : Ranged). Unit {0}) (λ (y : Ranged). n < y.span.low) (later n) rs (λ r u. each_behind (λ (y : Ranged). n < y.span.low) n r (λ l k a b c. omega (arith, b))) (each_any (λ (x : Ranged). Unit {0}) rs (λ r. tt))

    over : (b : Bool) → EachRanged (λ (y : Ranged). n ≤ y.span.low) (if b then [] else flat_map (later n) rs)
    over true = tt
    over false = each_map (λ (y : Ranged). n < y.span.low) (λ (y : Ranged). n ≤ y.span.low) (flat_map (later n) rs) (λ r l. omega (arith, l)) over_later

    rest : (b : Bool) → AreApart (record { span = error_span n b; answer = e } ∷ (if b then [] else flat_map (later n) rs))
    rest true = (fits, (tt, tt))
    rest false = (omega arith, (over_later, apart_later n rs h))

pub put_found : (n : ℕ) (for_good : Bool) (e : Answer) (rs : List Ranged) (k : ℕ) → k ≤ 4294967295 → first_with k (put_in n for_good e rs) ≡ answer_put n for_good e (λ j. first_with j rs) k
put_found n for_good e rs k top = by (nat_lt k n) refl
  where
    error : Ranged
    error = record { span = error_span n for_good; answer = e }

    rest : List Ranged
    rest = error ∷ (if for_good then [] else flat_map (later n) rs)

    under_all : (b : Bool) → k < n → EachRanged (λ (x : Ranged). has_number k x ≡ false) (record { span = error_span n b; answer = e } ∷ (if b then [] else flat_map (later n) rs))
    under_all true lt = (grind (arith, nat_tests, lt), tt)
    under_all false lt = (
      grind (arith, nat_tests, lt),
      each_flat (λ (x : Ranged). Unit {0}) (λ (x : Ranged). has_number k x ≡ false) (later n) rs (λ r u. each_behind (λ (x : Ranged). has_number k x ≡ false) n r (λ l h a b c. grind (arith, nat_tests, lt, b))) (each_any (λ (x : Ranged). Unit {0}) rs (λ r. tt)),
    )

    over_all : n ≤ k → EachRanged (λ (x : Ranged). has_number k x ≡ false) (flat_map (earlier n) rs)
    over_all le = each_flat (λ (x : Ranged). Unit {0}) (λ (x : Ranged). has_number k x ≡ false) (earlier n) rs (λ r u. each_before (λ (x : Ranged). has_number k x ≡ false) n r (λ h l u. grind (arith, nat_tests, le, u))) (each_any (λ (x : Ranged). Unit {0}) rs (λ r. tt))

    behind_one : (f : Bool) → n < k → first_with k (record { span = error_span n f; answer = e } ∷ (if f then [] else flat_map (later n) rs)) ≡ (if f then Some e else first_with (k - 1) rs)
    behind_one true lt = found k (record { span = error_span n true; answer = e }) [] true (grind (arith, nat_tests, lt, top))
    behind_one false lt =
        found k (record { span = error_span n false; answer = e }) (flat_map (later n) rs) false (grind (arith, nat_tests, lt))
        ∙ ap (first_with k) (sym (Rattle.std.proofs.lemmas.List.append-nil (flat_map (later n) rs)))
        ∙ alike k (k - 1) (later n) rs [] None (one_behind k n lt top) refl

    at : (c : Bool) → nat_eq k n ≡ c → nat_lt k n ≡ false → first_with k rest ≡ (if c || for_good then Some e else first_with (k - 1) rs)
    at true f g = found k error (if for_good then [] else flat_map (later n) rs) true (here for_good)
      where
        here : (b : Bool) → has_number k (record { span = error_span n b; answer = e }) ≡ true
        here true = grind (arith, nat_tests, f, top)
        here false = grind (arith, nat_tests, f)
    at false f g = behind_one for_good (grind (arith, nat_tests, f, g))

    by : (b : Bool) → nat_lt k n ≡ b → first_with k (flat_map (earlier n) rs ++ rest) ≡ (if b then first_with k rs else if nat_eq k n || for_good then Some e else first_with (k - 1) rs)
    by true g =
        let lt : k < n = grind (arith, nat_tests, g) in
        alike k k (earlier n) rs rest None (one_before k n lt) (none_with_any k rest (under_all for_good lt))
    by false g =
        let le : n ≤ k = grind (arith, nat_tests, g) in
        none_with k (flat_map (earlier n) rs) rest (over_all le) ∙ at (nat_eq k n) refl g
