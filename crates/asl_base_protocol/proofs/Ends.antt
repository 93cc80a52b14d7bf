-- How a line goes on and how it ends.
use Rattle.std.proofs.Common.{◌≡◌, ℕ, suc, ◌-◌, ◌≤◌, ◌==◌, ◌||◌, ◌&&◌, nat_eq, Bool, true, false, List, [], ◌∷◌, ◌++◌, length, get_or, take, refl, sym, ap, ◌∙◌, arith}
use Rattle.asl_base_protocol.specs.Grammar.{has_crlf}
use Rattle.asl_base_protocol.specs.private.Ends.{cr_behind}

pub last_is : (b : Bool) (xs : List ℕ) → 1 ≤ length xs → nat_eq (get_or xs (length xs - 1) 0) 13 ≡ cr_behind b xs
last_is b [] h = absurd (omega (arith, h))
last_is b (x ∷ []) h = refl
last_is b (x ∷ y ∷ ys) h =
    let e : length (x ∷ y ∷ ys) - 1 ≡ suc (length (y ∷ ys) - 1) = omega arith in
    ap (λ (i : ℕ). nat_eq (get_or (x ∷ y ∷ ys) i 0) 13) e ∙ last_is (x == 13) (y ∷ ys) (omega arith)

or_behind : (a b c : Bool) → (a || (b || c)) ≡ ((a || b) || c)
or_behind true b c = refl
or_behind false b c = refl

or_none : (a : Bool) → (a || false) ≡ a
or_none true = refl
or_none false = refl

crlf_more : (b : Bool) (l : List ℕ) (c : ℕ) → has_crlf b (l ++ c ∷ []) ≡ (has_crlf b l || (cr_behind b l && (c == 10)))
crlf_more b [] c = or_none (b && (c == 10))
crlf_more b (x ∷ xs) c =
    ap (λ (y : Bool). (b && (x == 10)) || y) (crlf_more (x == 13) xs c)
    ∙ or_behind (b && (x == 10)) (has_crlf (x == 13) xs) (cr_behind (x == 13) xs && (c == 10))

both_false : (a b : Bool) → a ≡ false → b ≡ false → (a || b) ≡ false
both_false a b e f = rw (e, f) refl

pub first_false : (a b : Bool) → (a || b) ≡ false → a ≡ false
first_false true b e = e
first_false false b e = refl

pub second_false : (a b : Bool) → (a || b) ≡ false → b ≡ false
second_false true b e = absurd (cc)
second_false false b e = e

-- a line goes on with a byte that doesn't end it
pub line_on : (l : List ℕ) (c : ℕ) → has_crlf false l ≡ false → (cr_behind false l && (c == 10)) ≡ false → has_crlf false (l ++ c ∷ []) ≡ false
line_on l c h e = crlf_more false l c ∙ both_false (has_crlf false l) (cr_behind false l && (c == 10)) h e

-- a front of a line is one
pub line_front : (l : List ℕ) (c : ℕ) → has_crlf false (l ++ c ∷ []) ≡ false → has_crlf false l ≡ false
line_front l c h = first_false (has_crlf false l) (cr_behind false l && (c == 10)) (sym (crlf_more false l c) ∙ h)

is_13 : (c : ℕ) → (c == 13) ≡ true → c ≡ 13
is_13 c e = grind (arith, e)

cr_last : (b : Bool) (l : List ℕ) → 1 ≤ length l → cr_behind b l ≡ true → l ≡ take (length l - 1) l ++ 13 ∷ []
cr_last b [] some e = absurd (omega (arith, some))
cr_last b (x ∷ []) some e = ap (λ (y : ℕ). y ∷ []) (is_13 x e)
cr_last b (x ∷ y ∷ ys) some e =
    let len : length (x ∷ y ∷ ys) - 1 ≡ suc (length (y ∷ ys) - 1) = omega arith in
    ap (λ (zs : List ℕ). x ∷ zs) (cr_last (x == 13) (y ∷ ys) (omega arith) e)
    ∙ sym (ap (λ (i : ℕ). take i (x ∷ y ∷ ys) ++ 13 ∷ []) len)

-- what is left of a line that ends with CR
pub cr_popped : (l front : List ℕ) → front ≡ take (length l - 1) l → cr_behind false l ≡ true → l ≡ front ++ 13 ∷ []
cr_popped [] front e cr = absurd (cc)
cr_popped (x ∷ xs) front e cr = cr_last false (x ∷ xs) (omega arith) cr ∙ ap (λ (y : List ℕ). y ++ 13 ∷ []) (sym e)

-- by how many bytes there are
pub cr_popped_at : (l front : List ℕ) (n : ℕ) → n ≡ length l → front ≡ take (n - 1) l → cr_behind false l ≡ true → l ≡ front ++ 13 ∷ []
cr_popped_at l front n e f cr = cr_popped l front (f ∙ ap (λ (k : ℕ). take (k - 1) l) e) cr

pub none_left : (l : List ℕ) → length l ≡ 0 → l ≡ []
none_left [] e = refl
none_left (x ∷ xs) e = absurd (omega (arith, e))
