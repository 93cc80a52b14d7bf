-- One character more of a template.
use Rattle.std.proofs.Common.{◌≡◌, ◌+◌, ◌==◌, ℕ, suc, Bool, true, false, List, [], ◌∷◌, ◌++◌, refl, sym, ◌∙◌, ap, cond, arith}
use Rattle.std.proofs.lemmas.Bool.{eqb-true}
use Rattle.asl_intrinsic_functions.specs.Letters.{letters, behind_backslash}
use Rattle.asl_intrinsic_functions.specs.Format.{tokens}
use Rattle.asl_lint_calls.specs.declared.holes.Look.{Look}
use Rattle.asl_lint_calls.specs.declared.holes.Look.TheVariants.{Nothing, Backslash, Brace}
use Rattle.asl_lint_calls.specs.Known.{count_holes}
use Rattle.asl_lint_calls.specs.private.Looks.{look_by, look_on, fills, holes_from}

-- a character that stands for itself before others, where it opens no place
plain_off : (c : ℕ) (cs : List ℕ) → (c == 123) ≡ false → count_holes (tokens (letters false (c ∷ []) ++ letters true cs)) ≡ count_holes (tokens (letters true cs))
plain_off c [] e = refl
plain_off c (d ∷ ds) e = by (d == 92) ds
  where
    by : (b : Bool) (xs : List ℕ) → count_holes (tokens (letters false (c ∷ []) ++ cond b (behind_backslash true xs) (letters false (d ∷ []) ++ letters true xs))) ≡ count_holes (tokens (cond b (behind_backslash true xs) (letters false (d ∷ []) ++ letters true xs)))
    by true [] = refl
    by true (x ∷ xs) = rw e refl
    by false xs = rw e refl

-- a brace that opens before a character behind a backslash
brace_escaped : (cs : List ℕ) → count_holes (tokens (letters false (123 ∷ []) ++ behind_backslash true cs)) ≡ count_holes (tokens (behind_backslash true cs))
brace_escaped [] = refl
brace_escaped (x ∷ xs) = refl

escaped_off : (c : ℕ) (cs : List ℕ) → count_holes (tokens (behind_backslash true (c ∷ cs))) ≡ count_holes (tokens (letters true cs))
escaped_off c [] = refl
escaped_off c (d ∷ ds) = by (d == 92) ds
  where
    by : (b : Bool) (xs : List ℕ) → count_holes (tokens (behind_backslash true (c ∷ []) ++ cond b (behind_backslash true xs) (letters false (d ∷ []) ++ letters true xs))) ≡ count_holes (tokens (cond b (behind_backslash true xs) (letters false (d ∷ []) ++ letters true xs)))
    by true [] = refl
    by true (x ∷ xs) = refl
    by false xs = refl

-- a character that stands for itself
behind_plain : (q : Bool) (c : ℕ) (cs : List ℕ) → (c == 123) ≡ q → count_holes (tokens (letters false (c ∷ []) ++ letters true cs)) ≡ holes_from (cond q Brace Nothing) cs
behind_plain true c cs f = ap (λ (z : ℕ). count_holes (tokens (letters false (z ∷ []) ++ letters true cs))) (eqb-true c 123 f)
behind_plain false c cs f = plain_off c cs f

behind_nothing : (b : Bool) (c : ℕ) (cs : List ℕ) → (c == 92) ≡ b → count_holes (tokens (letters true (c ∷ cs))) ≡ holes_from (look_by c) cs
behind_nothing true c cs e = rw e refl
behind_nothing false c cs e = rw e (behind_plain (c == 123) c cs refl)

behind_brace : (b q : Bool) (c : ℕ) (cs : List ℕ) → (c == 92) ≡ b → (c == 125) ≡ q
    → count_holes (tokens (letters false (123 ∷ []) ++ letters true (c ∷ cs))) ≡ cond q (suc (holes_from (look_by c) cs)) (holes_from (look_by c) cs)
behind_brace true true c cs e f = let two : 92 ≡ 125 = sym (eqb-true c 92 e) ∙ eqb-true c 125 f in absurd (omega (arith, two))
behind_brace true false c cs e f = rw e (brace_escaped cs)
behind_brace false true c cs e f = rw (e, f) (ap suc (ap (λ (z : ℕ). holes_from (cond (z == 123) Brace Nothing) cs) (sym (eqb-true c 125 f))))
behind_brace false false c cs e f = rw (e, f) (behind_plain (c == 123) c cs refl)

pub one_more : (l : Look) (c : ℕ) (cs : List ℕ) → holes_from l (c ∷ cs) ≡ cond (fills l c) (suc (holes_from (look_on l c) cs)) (holes_from (look_on l c) cs)
one_more Nothing c cs = behind_nothing (c == 92) c cs refl
one_more Backslash c cs = escaped_off c cs
one_more Brace c cs = behind_brace (c == 92) (c == 125) c cs refl refl

pub none_left : (l : Look) → holes_from l [] ≡ 0
none_left Nothing = refl
none_left Backslash = refl
none_left Brace = refl

-- behind a character that ends a place, and behind any other
pub filled : (l m : Look) (c : ℕ) (cs rest : List ℕ) (places next total : ℕ) → rest ≡ c ∷ cs → m ≡ look_on l c → fills l c ≡ true → next ≡ places + 1
    → places + holes_from l rest ≡ total → next + holes_from m cs ≡ total
filled l m c cs rest places next total r n f p h =
    let one = ap (holes_from l) r ∙ one_more l c cs ∙ ap (λ (b : Bool). cond b (suc (holes_from (look_on l c) cs)) (holes_from (look_on l c) cs)) f in
    let on = ap (λ (k : Look). holes_from k cs) n in
    omega (arith, one, on, p, h)

pub unfilled : (l m : Look) (c : ℕ) (cs rest : List ℕ) (places next total : ℕ) → rest ≡ c ∷ cs → m ≡ look_on l c → fills l c ≡ false → next ≡ places
    → places + holes_from l rest ≡ total → next + holes_from m cs ≡ total
unfilled l m c cs rest places next total r n f p h =
    let one = ap (holes_from l) r ∙ one_more l c cs ∙ ap (λ (b : Bool). cond b (suc (holes_from (look_on l c) cs)) (holes_from (look_on l c) cs)) f in
    let on = ap (λ (k : Look). holes_from k cs) n in
    omega (arith, one, on, p, h)
