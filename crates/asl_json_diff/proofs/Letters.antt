-- Texts that are gone through character by character.
use Rattle.std.proofs.Common.{◌≡◌, ℕ, zero, suc, ◌<◌, ◌+◌, Bool, true, false, List, [], ◌∷◌, ◌++◌, length, refl, sym, ◌∙◌, ap, append_assoc, arith}
use Rattle.std.specs.Prelude.{map, ◌||◌, nat_lt, codes}
use Rattle.std.specs.List.{flat_map, list_any}
use Rattle.std.proofs.lemmas.List.{append-nil, length-append}
use Rattle.std.proofs.lemmas.Bool.{lt-ltb, le-ltb}
use Rattle.asl_text.specs.Shown.{shown_char}
use Rattle.asl_json_diff.specs.Shown.{first_chars}

or_nothing : (a : Bool) → (a || false) ≡ a
or_nothing true = refl
or_nothing false = refl

or_assoc : (a b c : Bool) → ((a || b) || c) ≡ (a || (b || c))
or_assoc true b c = refl
or_assoc false b c = refl

pub any_more : (f : ℕ → Bool) (ys : List ℕ) (c : ℕ) → list_any f (ys ++ c ∷ []) ≡ (list_any f ys || f c)
any_more f [] c = or_nothing (f c)
any_more f (y ∷ ys) c = ap (λ (b : Bool). f y || b) (any_more f ys c) ∙ sym (or_assoc (f y) (list_any f ys) (f c))

-- ---- the first so many characters, of one character more

pub within : (n : ℕ) (ys : List ℕ) (c : ℕ) → length ys < n → first_chars n (ys ++ c ∷ []) ≡ first_chars n ys ++ shown_char c
within zero ys c lt = absurd (omega (arith, lt))
within (suc n) [] c lt = append-nil (shown_char c)
within (suc n) (y ∷ ys) c lt = ap (λ (x : List ℕ). shown_char y ++ x) (within n ys c (omega (arith, lt))) ∙ sym (append_assoc (shown_char y) (first_chars n ys) (shown_char c))

pub at_end : (n : ℕ) (ys : List ℕ) (c : ℕ) → length ys ≡ n → first_chars n (ys ++ c ∷ []) ≡ first_chars n ys ++ codes ".."
at_end zero [] c e = refl
at_end zero (y ∷ ys) c e = absurd (omega (arith, e))
at_end (suc n) [] c e = absurd (omega (arith, e))
at_end (suc n) (y ∷ ys) c e = ap (λ (x : List ℕ). shown_char y ++ x) (at_end n ys c (omega (arith, e))) ∙ sym (append_assoc (shown_char y) (first_chars n ys) (codes ".."))

pub beyond : (n : ℕ) (ys : List ℕ) (c : ℕ) → n < length ys → first_chars n (ys ++ c ∷ []) ≡ first_chars n ys
beyond n [] c lt = absurd (omega (arith, lt))
beyond zero (y ∷ ys) c lt = refl
beyond (suc n) (y ∷ ys) c lt = ap (λ (x : List ℕ). shown_char y ++ x) (beyond n ys c (omega (arith, lt)))

pub longer : (ys : List ℕ) (c : ℕ) → length (ys ++ c ∷ []) ≡ length ys + 1
longer ys c = length-append ys (c ∷ [])

-- whether there are more than so many, of one more that is within them, and of one more behind them
pub not_yet : (n : ℕ) (ys : List ℕ) (c : ℕ) (b : Bool) → length ys < n → b ≡ nat_lt n (length ys) → b ≡ nat_lt n (length (ys ++ c ∷ []))
not_yet n ys c b lt is = is ∙ le-ltb n (length ys) (omega (arith, lt)) ∙ sym (le-ltb n (length (ys ++ c ∷ [])) (omega (arith, lt, longer ys c)))

pub by_now : (n : ℕ) (ys : List ℕ) (c : ℕ) → n < length ys + 1 → true ≡ nat_lt n (length (ys ++ c ∷ []))
by_now n ys c lt = sym (lt-ltb n (length (ys ++ c ∷ [])) (omega (arith, lt, longer ys c)))
