-- A word stands in a text just where it is found there.
use Rattle.std.proofs.Common.{◌≡◌, ◌∙◌, ◌++◌, ℕ, ◌==◌, ◌&&◌, ◌||◌, Bool, true, false, List, [], ◌∷◌, ap, ap₂, sym, subst, refl, ◌⊎◌, inl, inr}
use Rattle.std.proofs.lemmas.Bool.{eqb-true, eq-eqb}
use Rattle.std.proofs.Math.Bool.{or-true}
use Rattle.asl_cli.specs.Choosing.{begins, has}

abbrev Stands : List ℕ → List ℕ → Type 0
Stands text word = (a : List ℕ) × (b : List ℕ) × (text ≡ a ++ (word ++ b))

same : (c : ℕ) → (c == c) ≡ true
same c = eq-eqb c c refl

begins_at : (word b : List ℕ) → begins word (word ++ b) ≡ true
begins_at [] b = refl
begins_at (c ∷ word) b = ap₂ (λ x y. x && y) (same c) (begins_at word b)

has_front : (word text : List ℕ) → begins word text ≡ true → has word text ≡ true
has_front word [] e = e
has_front word (c ∷ text) e = ap (λ x. x || has word text) e

has_at : (word a b : List ℕ) → has word (a ++ (word ++ b)) ≡ true
has_at word [] b = has_front word (word ++ b) (begins_at word b)
has_at word (c ∷ a) b = ap (λ x. begins word (c ∷ (a ++ (word ++ b))) || x) (has_at word a b) ∙ or-true (begins word (c ∷ (a ++ (word ++ b))))

both : (a b : Bool) → (a && b) ≡ true → (a ≡ true) × (b ≡ true)
both true b e = (refl, e)
both false b e = cc

either : (a b : Bool) → (a || b) ≡ true → (a ≡ true) ⊎ (b ≡ true)
either true b e = inl refl
either false b e = inr e

one : (c d : ℕ) → (c == d) ≡ true → c ≡ d
one c d e = eqb-true c d e

behind : (word text : List ℕ) → begins word text ≡ true → (b : List ℕ) × (text ≡ word ++ b)
behind [] text e = (text, refl)
behind (c ∷ word) [] e = cc
behind (c ∷ word) (d ∷ text) e =
    let halves = both (c == d) (begins word text) e in
    let rest = behind word text halves.1 in
    (rest.0, ap₂ (λ x xs. x ∷ xs) (sym (one c d halves.0)) rest.1)

stands : (word text : List ℕ) → has word text ≡ true → Stands text word
stands word [] e = let rest = behind word [] e in ([], rest.0, rest.1)
stands word (c ∷ text) e = elim (either (begins word (c ∷ text)) (has word text) e) [
  | inl here ↦ (let rest = behind word (c ∷ text) here in ([], rest.0, rest.1))
  | inr later ↦ (let rest = stands word text later in (c ∷ rest.0, rest.1, ap (λ xs. c ∷ xs) rest.2))
]

same_bool : (a b : Bool) → (a ≡ true → b ≡ true) → (b ≡ true → a ≡ true) → a ≡ b
same_bool true b f g = sym (f refl)
same_bool false true f g = g refl
same_bool false false f g = refl

-- a test that is true just where the word stands in the text
pub is_has : (r : Bool) (word text : List ℕ) → (r ≡ true → Stands text word) × (Stands text word → r ≡ true) → r ≡ has word text
is_has r word text finds = same_bool r (has word text)
    (λ e. let found = finds.0 e in subst (λ t. has word t ≡ true) (sym found.2) (has_at word found.0 found.1))
    (λ e. finds.1 (stands word text e))
