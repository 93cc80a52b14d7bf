-- Reading the lines of a file one after another, each of which spells a value.
use Rattle.std.proofs.Common.{ℕ, ◌≡◌, ◌+◌, List, [], ◌∷◌, ◌++◌, length, Option, None, Some, refl, sym, ◌∙◌, ap, subst, arith, append_assoc, append-nil}
use Rattle.asl_run_input.specs.FileLines.{lines_in, AreSpelled, IsFirstBadLine}

-- some values of a file were read, and the rest is left
pub record AreRead {X : Type 0} (Spells : List ℕ → X → Type 0) (bytes : List ℕ) (values : List X) (rest : List ℕ) : Type 0 where
  pub before : List (List ℕ)
  pub split : lines_in bytes ≡ before ++ lines_in rest
  pub good : AreSpelled Spells before values
  -- values that the whole file spells go on with what the rest spells
  pub only : (xs : List X) → AreSpelled Spells (lines_in bytes) xs → (ys : List X) × ((xs ≡ values ++ ys) × AreSpelled Spells (lines_in rest) ys)

-- what is known where a line is read
abbrev pub IsOnly : {X : Type 0} → (List ℕ → X → Type 0) → List ℕ → Option X → Type 0
IsOnly {X} Spells line o = (x : X) → Spells line x → o ≡ Some x

pub begun : {X : Type 0} (Spells : List ℕ → X → Type 0) (bytes : List ℕ) → AreRead Spells bytes [] bytes
begun Spells bytes = record { before = []; split = refl; good = tt; only = λ xs h. (xs, (refl, h)) }

spelled-last : {X : Type 0} (Spells : List ℕ → X → Type 0) (before : List (List ℕ)) (values : List X) (line : List ℕ) (x : X) → AreSpelled Spells before values → Spells line x
    → AreSpelled Spells (before ++ line ∷ []) (values ++ x ∷ [])
spelled-last Spells [] [] line x h l = (l, tt)
spelled-last Spells [] (y ∷ ys) line x h l = absurd h
spelled-last Spells (b ∷ bs) [] line x h l = absurd h
spelled-last Spells (b ∷ bs) (y ∷ ys) line x h l = (h.0, spelled-last Spells bs ys line x h.1 l)

spelled-length : {X : Type 0} (Spells : List ℕ → X → Type 0) (before : List (List ℕ)) (values : List X) → AreSpelled Spells before values → length before ≡ length values
spelled-length Spells [] [] h = refl
spelled-length Spells [] (y ∷ ys) h = absurd h
spelled-length Spells (b ∷ bs) [] h = absurd h
spelled-length Spells (b ∷ bs) (y ∷ ys) h = let e = spelled-length Spells bs ys h.1 in omega (arith, e)

goes_on : {X : Type 0} (Spells : List ℕ → X → Type 0) (values : List X) (line behind : List ℕ) (x : X) (xs : List X) → IsOnly Spells line (Some x)
    → (ys : List X) × ((xs ≡ values ++ ys) × AreSpelled Spells (line ∷ lines_in behind) ys)
    → (ys : List X) × ((xs ≡ (values ++ x ∷ []) ++ ys) × AreSpelled Spells (lines_in behind) ys)
goes_on Spells values line behind x xs only ([], h) = absurd h.1
goes_on Spells values line behind x xs only (y ∷ ys, h) =
    let some = only y h.1.0 in
    let same : y ≡ x = cc in
    (ys, (h.0 ∙ rw (same, append_assoc) refl, h.1.1))

pub read_on : {X : Type 0} (Spells : List ℕ → X → Type 0) (bytes : List ℕ) (values : List X) (rest line behind : List ℕ) (x : X) → AreRead Spells bytes values rest
    → lines_in rest ≡ line ∷ lines_in behind → Spells line x → IsOnly Spells line (Some x) → AreRead Spells bytes (values ++ x ∷ []) behind
read_on Spells bytes values rest line behind x h e is only = record {
  before = h.before ++ line ∷ [];
  split = h.split ∙ rw (e, append_assoc) refl;
  good = spelled-last Spells h.before values line x h.good is;
  only = λ xs f. goes_on Spells values line behind x xs only (rw e at (h.only xs f));
}

no_value : {X : Type 0} (Spells : List ℕ → X → Type 0) (line : List ℕ) (o : Option X) → o ≡ None → IsOnly Spells line o → (x : X) → Spells line x → ⊥
no_value Spells line o e only x h = let some = only x h in cc

pub stuck : {X : Type 0} (Spells : List ℕ → X → Type 0) (bytes : List ℕ) (values : List X) (rest line behind : List ℕ) (o : Option X) (n : ℕ) → AreRead Spells bytes values rest
    → lines_in rest ≡ line ∷ lines_in behind → o ≡ None → IsOnly Spells line o → n ≡ length values + 1 → IsFirstBadLine Spells bytes n
stuck Spells bytes values rest line behind o n h e none only number = record {
  before = h.before;
  bad = line;
  after = lines_in behind;
  split = h.split ∙ ap (λ ls. h.before ++ ls) e;
  number = let l = spelled-length Spells h.before values h.good in omega (arith, l, number);
  values = values;
  good = h.good;
  none = no_value Spells line o none only;
}

none_at : {X : Type 0} (Spells : List ℕ → X → Type 0) (values : List X) (line behind : List ℕ) (xs : List X) → ((x : X) → Spells line x → ⊥)
    → (ys : List X) × ((xs ≡ values ++ ys) × AreSpelled Spells (line ∷ lines_in behind) ys) → ⊥
none_at Spells values line behind xs none ([], h) = absurd h.1
none_at Spells values line behind xs none (y ∷ ys, h) = none y h.1.0

-- a file with a bad line spells no values
pub no_values : {X : Type 0} (Spells : List ℕ → X → Type 0) (bytes : List ℕ) (values : List X) (rest line behind : List ℕ) (o : Option X) → AreRead Spells bytes values rest
    → lines_in rest ≡ line ∷ lines_in behind → o ≡ None → IsOnly Spells line o → (xs : List X) → AreSpelled Spells (lines_in bytes) xs → ⊥
no_values Spells bytes values rest line behind o h e none only xs f = none_at Spells values line behind xs (no_value Spells line o none only) (rw e at (h.only xs f))

pub whole : {X : Type 0} (Spells : List ℕ → X → Type 0) (bytes : List ℕ) (values : List X) (rest : List ℕ) → AreRead Spells bytes values rest → rest ≡ []
    → AreSpelled Spells (lines_in bytes) values
whole Spells bytes values rest h e =
    let all : lines_in bytes ≡ h.before = h.split ∙ rw e (append-nil h.before) in
    rw all h.good

ended_at : {X : Type 0} (Spells : List ℕ → X → Type 0) (values xs : List X) → (ys : List X) × ((xs ≡ values ++ ys) × AreSpelled Spells [] ys) → values ≡ xs
ended_at Spells values xs ([], h) = sym (h.0 ∙ append-nil values)
ended_at Spells values xs (y ∷ ys, h) = absurd h.1

pub ended : {X : Type 0} (Spells : List ℕ → X → Type 0) (bytes : List ℕ) (values : List X) (rest : List ℕ) → AreRead Spells bytes values rest → rest ≡ []
    → (xs : List X) → AreSpelled Spells (lines_in bytes) xs → values ≡ xs
ended Spells bytes values rest h e xs f = ended_at Spells values xs (rw e at (h.only xs f))

-- ---- what a file spells

-- where a line spells at most one value, lines spell at most one list of values
pub one_list : {X : Type 0} (Spells : List ℕ → X → Type 0) → ((line : List ℕ) (x y : X) → Spells line x → Spells line y → x ≡ y)
    → (lines : List (List ℕ)) (xs ys : List X) → AreSpelled Spells lines xs → AreSpelled Spells lines ys → xs ≡ ys
one_list Spells one [] [] [] h k = refl
one_list Spells one [] [] (y ∷ ys) h k = absurd k
one_list Spells one [] (x ∷ xs) ys h k = absurd h
one_list Spells one (line ∷ lines) [] ys h k = absurd h
one_list Spells one (line ∷ lines) (x ∷ xs) [] h k = absurd k
one_list Spells one (line ∷ lines) (x ∷ xs) (y ∷ ys) h k =
    let first = one line x y h.0 k.0 in
    let others = one_list Spells one lines xs ys h.1 k.1 in
    λ i. first i ∷ others i

spelled_too : {X : Type 0} (Spells : List ℕ → X → Type 0) (before : List (List ℕ)) (bad : List ℕ) (after : List (List ℕ)) (xs : List X)
    → AreSpelled Spells (before ++ bad ∷ after) xs → ((x : X) → Spells bad x → ⊥) → ⊥
spelled_too Spells [] bad after [] h none = h
spelled_too Spells [] bad after (x ∷ xs) h none = none x h.0
spelled_too Spells (b ∷ before) bad after [] h none = h
spelled_too Spells (b ∷ before) bad after (x ∷ xs) h none = spelled_too Spells before bad after xs h.1 none

-- a file that spells values has no bad line
pub no_bad_line : {X : Type 0} (Spells : List ℕ → X → Type 0) (bytes : List ℕ) (xs : List X) (n : ℕ) → AreSpelled Spells (lines_in bytes) xs → IsFirstBadLine Spells bytes n → ⊥
no_bad_line Spells bytes xs n h bad =
    spelled_too Spells bad.before bad.bad bad.after xs (subst (λ (ls : List (List ℕ)). AreSpelled Spells ls xs) bad.split h) bad.none
