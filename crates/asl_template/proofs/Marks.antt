-- Keys that end in the mark.
use Rattle.std.proofs.Common.{◌≡◌, ◌≢◌, ℕ, List, [], ◌∷◌, ◌++◌, Bool, true, false, length, refl, sym, ap, ◌∙◌, append_assoc, length-append, arith}
use Rattle.std.specs.Prelude.{Option, Some, None, option_map, if◌then◌else◌}
use Rattle.std.specs.Cmp.Lexicographic.{same_text}
use Rattle.std.specs.Option.{MatchOption}
use denote.Ref.{Bor}
use Rattle.asl_json.specs.Same.{bytes_eq}
use Rattle.asl_template.specs.Names.{mark, name_before, first_of, name_of}

longer : (c : ℕ) (m : List ℕ) → c ∷ (m ++ mark) ≢ mark
longer c m e = let n : length (c ∷ (m ++ mark)) ≡ 2 = ap length e in omega (arith, n, length-append m mark)

not_mark : (c : ℕ) (m : List ℕ) → bytes_eq (c ∷ (m ++ mark)) mark ≡ false
not_mark c m = decided (bytes_eq (c ∷ (m ++ mark)) mark) refl
  where
    decided : (b : Bool) → bytes_eq (c ∷ (m ++ mark)) mark ≡ b → b ≡ false
    decided true e = absurd (longer c m (same_text (c ∷ (m ++ mark)) mark (sym e)))
    decided false e = refl

pub name_before-mark : (n : List ℕ) → name_before (n ++ mark) ≡ Some n
name_before-mark [] = refl
name_before-mark (c ∷ m) = rw (not_mark c m, name_before-mark m) refl

pub name_of-mark : (n : List ℕ) → name_of (n ++ mark) ≡ n
name_of-mark n = ap (λ (o : Option (List ℕ)). first_of o (n ++ mark)) (name_before-mark n)

some : {A : Type 0} (a b : A) → Some a ≡ Some b → a ≡ b
some {A = A} a b e = ap (λ (o : Option A). first_of o a) e

pub ends_in_mark : (k n : List ℕ) → name_before k ≡ Some n → k ≡ n ++ mark
ends_in_mark [] n e = absurd cc
ends_in_mark (c ∷ k) n e = decided (ends_in_mark k) (bytes_eq (c ∷ k) mark) refl e
  where
    inner : ((m : List ℕ) → name_before k ≡ Some m → k ≡ m ++ mark) → (o : Option (List ℕ)) → name_before k ≡ o → option_map (λ (m : List ℕ). c ∷ m) o ≡ Some n → c ∷ k ≡ n ++ mark
    inner further None f g = absurd cc
    inner further (Some m) f g = ap (λ (x : List ℕ). c ∷ x) (further m f) ∙ ap (λ (x : List ℕ). x ++ mark) (some (c ∷ m) n g)

    decided : ((m : List ℕ) → name_before k ≡ Some m → k ≡ m ++ mark) → (b : Bool) → bytes_eq (c ∷ k) mark ≡ b → (if b then Some [] else option_map (λ (m : List ℕ). c ∷ m) (name_before k)) ≡ Some n → c ∷ k ≡ n ++ mark
    decided further true f g = same_text (c ∷ k) mark (sym f) ∙ ap (λ (x : List ℕ). x ++ mark) (some [] n g)
    decided further false f g = inner further (name_before k) refl g

pub no_mark : (k : List ℕ) → ((n : List ℕ) → k ≢ n ++ mark) → name_before k ≡ None
no_mark k none = decided (name_before k) refl
  where
    decided : (o : Option (List ℕ)) → name_before k ≡ o → o ≡ None
    decided None e = refl
    decided (Some n) e = absurd (none n (ends_in_mark k n e))

-- what taking the two characters off says
pub no_sign : (k : List ℕ) → ((front : List ℕ) → k ≢ front ++ 36 ∷ []) → name_before k ≡ None
no_sign k none = no_mark k (λ n e. none (n ++ 46 ∷ []) (e ∙ sym (append_assoc n (46 ∷ []) (36 ∷ []))))

pub taken_off : (k front : List ℕ) (r : Option (Bor (List ℕ))) → k ≡ front ++ 36 ∷ [] → MatchOption r ((n : List ℕ) → front ≢ n ++ 46 ∷ []) (λ n. front ≡ n.now ++ 46 ∷ []) → option_map (λ n. n.now) r ≡ name_before k
taken_off k front None e none = sym (no_mark k (λ n f. none n (last front (n ++ 46 ∷ []) (sym e ∙ f ∙ sym (append_assoc n (46 ∷ []) (36 ∷ []))))))
  where
    head_of : List ℕ → ℕ
    head_of [] = 0
    head_of (x ∷ xs) = x

    tail_of : List ℕ → List ℕ
    tail_of [] = []
    tail_of (x ∷ xs) = xs

    last : (xs ys : List ℕ) → xs ++ 36 ∷ [] ≡ ys ++ 36 ∷ [] → xs ≡ ys
    last [] [] p = refl
    last [] (y ∷ ys) p = absurd (let n : 1 ≡ length (y ∷ ys ++ 36 ∷ []) = ap length p in omega (arith, n, length-append ys (36 ∷ [])))
    last (x ∷ xs) [] p = absurd (let n : length (x ∷ xs ++ 36 ∷ []) ≡ 1 = ap length p in omega (arith, n, length-append xs (36 ∷ [])))
    last (x ∷ xs) (y ∷ ys) p = λ i. ap head_of p i ∷ last xs ys (ap tail_of p) i
taken_off k front (Some n) e is = sym (ap name_before (e ∙ ap (λ (x : List ℕ). x ++ 36 ∷ []) is ∙ append_assoc n.now (46 ∷ []) (36 ∷ [])) ∙ name_before-mark n.now)
