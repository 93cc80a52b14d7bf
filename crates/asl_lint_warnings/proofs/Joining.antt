-- Ways along edges: by their steps, and by the nodes that they pass through.
use Rattle.std.proofs.Common.{◌≡◌, ◌⊎◌, inl, inr, ◌<◌, ◌≤◌, ℕ, zero, suc, List, [], ◌∷◌, Bool, true, false, ◌||◌, ◌&&◌, length, get_or, refl, sym, ap, subst, arith}
use Rattle.std.specs.Prelude.{◌==◌}
use Rattle.std.specs.List.{list_any}
use Rattle.std.proofs.lemmas.Bool.{eqb-true, eq-eqb}
use Rattle.asl_lint_warnings.specs.Ways.{IsIn, Arrives, Reaches}
use Rattle.asl_lint_warnings.specs.Graphs.{is_in, leads, joins}
use Rattle.asl_lint_warnings.specs.private.Places.{AreTurned}
use Rattle.asl_lint_warnings.proofs.Searching.{edge_from}

pub or_true : (a b : Bool) → (a || b) ≡ true → (a ≡ true) ⊎ (b ≡ true)
or_true true b e = inl refl
or_true false b e = inr e

pub or_left : (a b : Bool) → a ≡ true → (a || b) ≡ true
or_left true b e = refl
or_left false b e = absurd (cc)

pub or_right : (a b : Bool) → b ≡ true → (a || b) ≡ true
or_right true b e = refl
or_right false b e = e

pub and_true : (a b : Bool) → (a && b) ≡ true → (a ≡ true) × (b ≡ true)
and_true true b e = (refl, e)
and_true false b e = absurd (cc)

pub and_both : (a b : Bool) → a ≡ true → b ≡ true → (a && b) ≡ true
and_both true b e f = f
and_both false b e f = absurd (cc)

pub same_bool : (a b : Bool) → (a ≡ true → b ≡ true) → (b ≡ true → a ≡ true) → a ≡ b
same_bool true true f g = refl
same_bool false false f g = refl
same_bool true false f g = sym (f refl)
same_bool false true f g = g refl

in_true : (xs : List ℕ) (i : ℕ) → is_in xs i ≡ true → IsIn xs i
in_true [] i e = absurd (cc)
in_true (x ∷ xs) i e = elim (or_true (i == x) (is_in xs i) e) as (λ _. IsIn (x ∷ xs) i) [ inl h ↦ inl (eqb-true i x h) | inr h ↦ inr (in_true xs i h) ]

true_in : (xs : List ℕ) (i : ℕ) → IsIn xs i → is_in xs i ≡ true
true_in [] i h = absurd h
true_in (x ∷ xs) i (inl e) = or_left (i == x) (is_in xs i) (eq-eqb i x e)
true_in (x ∷ xs) i (inr h) = or_right (i == x) (is_in xs i) (true_in xs i h)

-- ---- a way by its nodes

joins_none : (es : List (List ℕ)) (n i j : ℕ) → joins es zero i j ≡ true → joins es n i j ≡ true
joins_none es zero i j h = h
joins_none es (suc n) i j h = or_left (joins es n i j) (joins es n i n && joins es n n j) (joins_none es n i j h)

joins_to : (es : List (List ℕ)) (k i : ℕ) → joins es (suc k) i k ≡ true → joins es k i k ≡ true
joins_to es k i h =
    elim (or_true (joins es k i k) (joins es k i k && joins es k k k) h) as (λ _. joins es k i k ≡ true) [ inl a ↦ a | inr b ↦ (and_true (joins es k i k) (joins es k k k) b).0 ]

joins_from : (es : List (List ℕ)) (k j : ℕ) → joins es (suc k) k j ≡ true → joins es k k j ≡ true
joins_from es k j h =
    elim (or_true (joins es k k j) (joins es k k k && joins es k k j) h) as (λ _. joins es k k j ≡ true) [ inl a ↦ a | inr b ↦ (and_true (joins es k k k) (joins es k k j) b).1 ]

through : (es : List (List ℕ)) (k i j : ℕ) → joins es k i k ≡ true → joins es k k j ≡ true → joins es (suc k) i j ≡ true
through es k i j a b = or_right (joins es k i j) (joins es k i k && joins es k k j) (and_both (joins es k i k) (joins es k k j) a b)

pub last_or_less : (k m : ℕ) → m < suc k → (m ≡ k) ⊎ (m < k)
last_or_less zero zero lt = inl refl
last_or_less zero (suc m) lt = absurd (omega arith)
last_or_less (suc k) zero lt = inr (omega arith)
last_or_less (suc k) (suc m) lt =
    let less : m < suc k = omega arith in
    elim (last_or_less k m less) as (λ _. (suc m ≡ suc k) ⊎ (suc m < suc k)) [ inl e ↦ inl (ap suc e) | inr h ↦ inr (omega (arith, h)) ]

-- two ways make one
joined : (es : List (List ℕ)) (k i m j : ℕ) → m < k → joins es k i m ≡ true → joins es k m j ≡ true → joins es k i j ≡ true
joined es zero i m j lt p q = absurd (omega arith)
joined es (suc k) i m j lt p q =
    elim (last_or_less k m lt) as (λ _. joins es (suc k) i j ≡ true) [
      | inl e ↦ through es k i j (joins_to es k i (subst (λ (x : ℕ). joins es (suc k) i x ≡ true) e p)) (joins_from es k j (subst (λ (x : ℕ). joins es (suc k) x j ≡ true) e q))
      | inr less ↦ elim (or_true (joins es k i m) (joins es k i k && joins es k k m) p) as (λ _. joins es (suc k) i j ≡ true) [
        | inl a ↦ elim (or_true (joins es k m j) (joins es k m k && joins es k k j) q) as (λ _. joins es (suc k) i j ≡ true) [
          | inl b ↦ or_left (joins es k i j) (joins es k i k && joins es k k j) (joined es k i m j less a b)
          | inr b ↦ let c = and_true (joins es k m k) (joins es k k j) b in through es k i j (joined es k i m k less a c.0) c.1
        ]
        | inr a ↦ let c = and_true (joins es k i k) (joins es k k m) a in elim (or_true (joins es k m j) (joins es k m k && joins es k k j) q) as (λ _. joins es (suc k) i j ≡ true) [
          | inl b ↦ through es k i j c.0 (joined es k k m j less c.1 b)
          | inr b ↦ through es k i j c.0 (and_true (joins es k m k) (joins es k k j) b).1
        ]
      ]
    ]

-- ---- from the nodes to the steps

pub walked : (es : List (List ℕ)) (starts : List ℕ) (k i j : ℕ) → joins es k i j ≡ true → Reaches es starts i → Reaches es starts j
walked es starts zero i j h r =
    elim (or_true (i == j) (leads es i j) h) as (λ _. Reaches es starts j) [
      | inl e ↦ subst (Reaches es starts) (eqb-true i j e) r
      | inr e ↦ (suc r.0, (i, r.1, in_true (get_or es i []) j e))
    ]
walked es starts (suc k) i j h r =
    elim (or_true (joins es k i j) (joins es k i k && joins es k k j) h) as (λ _. Reaches es starts j) [
      | inl e ↦ walked es starts k i j e r
      | inr e ↦ let c = and_true (joins es k i k) (joins es k k j) e in walked es starts k k j c.1 (walked es starts k i k c.0 r)
    ]

pub any_in : (p : ℕ → Bool) (xs : List ℕ) → list_any p xs ≡ true → (x : ℕ) × IsIn xs x × (p x ≡ true)
any_in p [] h = absurd (cc)
any_in p (x ∷ xs) h =
    elim (or_true (p x) (list_any p xs) h) as (λ _. (y : ℕ) × IsIn (x ∷ xs) y × (p y ≡ true)) [
      | inl e ↦ (x, inl refl, e)
      | inr e ↦ let r = any_in p xs e in (r.0, inr r.1, r.2)
    ]

pub in_any : (p : ℕ → Bool) (xs : List ℕ) (x : ℕ) → IsIn xs x → p x ≡ true → list_any p xs ≡ true
in_any p [] x h e = absurd h
in_any p (y ∷ ys) x (inl s) e = or_left (p y) (list_any p ys) (subst (λ (z : ℕ). p z ≡ true) s e)
in_any p (y ∷ ys) x (inr h) e = or_right (p y) (list_any p ys) (in_any p ys x h e)

pub reaches : (es : List (List ℕ)) (starts : List ℕ) (n j : ℕ) → list_any (λ s. joins es n s j) starts ≡ true → Reaches es starts j
reaches es starts n j h = let s = any_in (λ s. joins es n s j) starts h in walked es starts n s.0 j s.2 (zero, s.1)

-- ---- and back

arrived : (es : List (List ℕ)) (starts : List ℕ) (m j : ℕ) → Arrives es starts m j → (s : ℕ) × IsIn starts s × (joins es (length es) s j ≡ true)
arrived es starts zero j h = (j, h, joins_none es (length es) j j (or_left (j == j) (leads es j j) (eq-eqb j j refl)))
arrived es starts (suc m) j h =
    let before = arrived es starts m h.0 h.1 in
    let edge : joins es (length es) h.0 j ≡ true = joins_none es (length es) h.0 j (or_right (h.0 == j) (leads es h.0 j) (true_in (get_or es h.0 []) j h.2)) in
    (before.0, before.1, joined es (length es) before.0 h.0 j (edge_from es h.0 j h.2) before.2 edge)

pub reached : (es : List (List ℕ)) (starts : List ℕ) (j : ℕ) → Reaches es starts j → list_any (λ s. joins es (length es) s j) starts ≡ true
reached es starts j r = let s = arrived es starts r.0 j r.1 in in_any (λ x. joins es (length es) x j) starts s.0 s.1 s.2

-- ---- edges turned round

turned_joins : (es fs : List (List ℕ)) (n : ℕ) → ((i j : ℕ) → i < n → j < n → leads fs i j ≡ true → leads es j i ≡ true) → (k : ℕ) → k ≤ n → (i j : ℕ) → i < n → j < n → joins fs k i j ≡ true → joins es k j i ≡ true
turned_joins es fs n turn zero le i j li lj h =
    elim (or_true (i == j) (leads fs i j) h) as (λ _. joins es zero j i ≡ true) [
      | inl e ↦ or_left (j == i) (leads es j i) (eq-eqb j i (sym (eqb-true i j e)))
      | inr e ↦ or_right (j == i) (leads es j i) (turn i j li lj e)
    ]
turned_joins es fs n turn (suc k) le i j li lj h =
    let less : k < n = omega arith in
    let le2 : k ≤ n = omega arith in
    elim (or_true (joins fs k i j) (joins fs k i k && joins fs k k j) h) as (λ _. joins es (suc k) j i ≡ true) [
      | inl e ↦ or_left (joins es k j i) (joins es k j k && joins es k k i) (turned_joins es fs n turn k le2 i j li lj e)
      | inr e ↦ let c = and_true (joins fs k i k) (joins fs k k j) e in
          through es k j i (turned_joins es fs n turn k le2 k j less lj c.1) (turned_joins es fs n turn k le2 i k li less c.0)
    ]

pub to_turned : (es fs : List (List ℕ)) → AreTurned es fs → (i j : ℕ) → i < length es → j < length es → joins fs (length es) i j ≡ true → joins es (length es) j i ≡ true
to_turned es fs t i j li lj h =
    turned_joins es fs (length es) (λ i j li lj e. true_in (get_or es j []) i ((t.1 i j li).0 (in_true (get_or fs i []) j e))) (length es) (omega arith) i j li lj h

pub from_turned : (es fs : List (List ℕ)) → AreTurned es fs → (i j : ℕ) → i < length es → j < length es → joins es (length es) i j ≡ true → joins fs (length es) j i ≡ true
from_turned es fs t i j li lj h =
    turned_joins fs es (length es) (λ i j li lj e. true_in (get_or fs j []) i ((t.1 j i lj).1 (in_true (get_or es i []) j e))) (length es) (omega arith) i j li lj h
