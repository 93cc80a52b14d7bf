-- Branches have branches under them only while they wait for these.
use Rattle.std.proofs.Common.{ℕ, ◌≡◌, ◌==◌, Bool, true, false, List, [], ◌∷◌, ◌++◌, refl, sym, subst, append_assoc, Some, None, Option}
use Rattle.std.specs.Prelude.{is_some}
use Rattle.std.proofs.lemmas.Bool.{and_parts, both_ways, eqb-true, eq-eqb}
use Rattle.asl_history.specs.Places.{is_prefix}
use Rattle.asl_step.specs.declared.record.Record.{Record}
use Rattle.asl_step.specs.declared.record.Record.TheVariants.{New, Ready, Pausing, Again, Forked, Done, Failed}
use Rattle.asl_run_branches.specs.Branches.{Branch, record_at}

-- it waits for branches under it
abbrev pub is_joining : Record → Bool
is_joining (New n x) = false
is_joining (Ready n x) = false
is_joining (Pausing n x since until) = false
is_joining (Again n x since uses until) = false
is_joining (Forked n x since uses items) = true
is_joining (Done x) = false
is_joining (Failed e) = false

abbrev pub joins_in : Option Record → Bool
joins_in None = false
joins_in (Some r) = is_joining r

-- so does the branch at a place
abbrev pub joins_at : List ℕ → List Branch → Bool
joins_at x bs = joins_in (record_at x bs)

-- each branch directly above another one does
abbrev pub IsRooted : List Branch → Type 0
IsRooted bs = (x : List ℕ) (i : ℕ) → is_some (record_at (x ++ i ∷ []) bs) ≡ true → joins_at x bs ≡ true

pub some-joins : (o : Option Record) → joins_in o ≡ true → is_some o ≡ true
some-joins None h = h
some-joins (Some r) h = refl

-- so does each above another one
pub rooted-above : (bs : List Branch) → IsRooted bs → (rest a : List ℕ) (i : ℕ) → is_some (record_at (a ++ i ∷ rest) bs) ≡ true → joins_at a bs ≡ true
rooted-above bs w [] a i h = w a i h
rooted-above bs w (j ∷ rest) a i h =
    let same : (a ++ i ∷ []) ++ j ∷ rest ≡ a ++ i ∷ j ∷ rest = append_assoc a (i ∷ []) (j ∷ rest) in
    let deeper : is_some (record_at ((a ++ i ∷ []) ++ j ∷ rest) bs) ≡ true = subst (λ (z : List ℕ). is_some (record_at z bs) ≡ true) (sym same) h in
    w a i (some-joins (record_at (a ++ i ∷ []) bs) (rooted-above bs w rest (a ++ i ∷ []) j deeper))

-- a place strictly under another one
pub below : (a q : List ℕ) → is_prefix a q ≡ true → is_prefix q a ≡ false → (i : ℕ) × ((rest : List ℕ) × (q ≡ a ++ i ∷ rest))
below [] [] h k = absurd (both_ways true k refl)
below [] (i ∷ q) h k = (i, (q, refl))
below (x ∷ a) [] h k = (cc)
below (x ∷ a) (y ∷ q) h k =
    let p = and_parts (x == y) (is_prefix a q) h in
    let e : x ≡ y = eqb-true x y p.0 in
    let yx : (y == x) ≡ true = eq-eqb y x (sym e) in
    let d = below a q p.1 (rw yx at k) in
    (d.0, (d.1.0, λ i. sym e i ∷ d.1.1 i))
