-- A walk down the tree finds the turn that comes first.
use Rattle.std.proofs.Common.{ℕ, suc, ◌≡◌, ◌+◌, ◌≤◌, ◌||◌, Bool, true, false, not, List, [], ◌∷◌, ◌++◌, refl, sym, ◌∙◌, ap, arith, cond, map, take, option_map, Some, None}
use Rattle.std.specs.Prelude.{slice_get, nat_lt, Option, ⊤, IfSome, is_some}
use Rattle.std.proofs.lemmas.Bool.Decides.{nat_tests}
use Rattle.std.proofs.lemmas.List.{map-append}
use Rattle.asl_step.specs.Records.{is_failed, is_done}
use Rattle.asl_run_branches.specs.Branches.{children_at, map_in, is_stopped, is_busy}
use Rattle.asl_run_branches.specs.Trees.{Held, Family, Spot, Node, node_of, pushed, below_of, branches_of, count_undone, count_failed, one_if}
use Rattle.asl_run_branches.specs.Turns.{Limits, limit_of, is_full, due_by, due_at, Due, dues_of, Turn, comes_first, sooner, turn_at, soonest}
use Rattle.asl_run_branches.specs.private.Walking.{dues_in, dues_below, soonest_of}
use Rattle.asl_run_branches.proofs.Counts.{undone-more}
use Rattle.asl_run_branches.proofs.Reading.{fam, record-by, children-by, stopped-by, stopped-here}
use Rattle.asl_run_branches.proofs.Forking.{forker-root, forker-here, forker-by}
use Rattle.asl_run_branches.proofs.Iterating.{elders-here, elders-by}

-- ---- turns

pub none-sooner : (a : Option Turn) → sooner None a ≡ a
none-sooner None = refl
none-sooner (Some x) = refl

three : (x y z : Turn) (b c : Bool) → nat_lt y.1 x.1 ≡ b → nat_lt z.1 y.1 ≡ c → sooner (Some x) (cond c (Some z) (Some y)) ≡ sooner (cond b (Some y) (Some x)) (Some z)
three x y z true true hb hc =
    let l : nat_lt z.1 x.1 ≡ true = grind (arith, nat_tests, hb, hc) in
    rw (l, hc) refl
three x y z true false hb hc = rw (hb, hc) refl
three x y z false true hb hc = refl
three x y z false false hb hc =
    let l : nat_lt z.1 x.1 ≡ false = grind (arith, nat_tests, hb, hc) in
    rw (l, hb) refl

pub sooner-assoc : (a b c : Option Turn) → sooner a (sooner b c) ≡ sooner (sooner a b) c
sooner-assoc a b None = refl
sooner-assoc a None (Some z) = refl
sooner-assoc None (Some y) (Some z) = none-sooner (sooner (Some y) (Some z))
sooner-assoc (Some x) (Some y) (Some z) = three x y z (nat_lt y.1 x.1) (nat_lt z.1 y.1) refl refl

soonest-append : (now : ℕ) (xs ys : List Due) → soonest now (xs ++ ys) ≡ sooner (soonest now xs) (soonest now ys)
soonest-append now [] ys = sym (none-sooner (soonest now ys))
soonest-append now (x ∷ xs) ys = ap (sooner (turn_at now x)) (soonest-append now xs ys) ∙ sooner-assoc (turn_at now x) (soonest now xs) (soonest now ys)

-- no turn comes before now
abbrev pub IsLate : ℕ → Option Turn → Type 0
IsLate now None = ⊤
IsLate now (Some t) = now ≤ t.1

pub late-cond : (now : ℕ) (c : Bool) (a b : Option Turn) → IsLate now a → IsLate now b → IsLate now (cond c a b)
late-cond now true a b h g = h
late-cond now false a b h g = g

pub late-sooner : (now : ℕ) (a b : Option Turn) → IsLate now a → IsLate now b → IsLate now (sooner a b)
late-sooner now a b h g = late-cond now (comes_first b a) b a g h

late-turn : (now : ℕ) (d : Due) → IsLate now (turn_at now d)
late-turn now (p, None) = tt
late-turn now (p, Some until) = omega arith

pub late-soonest : (now : ℕ) (ds : List Due) → IsLate now (soonest now ds)
late-soonest now [] = tt
late-soonest now (d ∷ ds) = late-sooner now (turn_at now d) (soonest now ds) (late-turn now d) (late-soonest now ds)

pub late-of : (limits : Limits) (now limit failed undone : ℕ) (ks : List Family) → IsLate now (soonest_of limits now limit failed undone ks)
late-of limits now limit failed undone [] = tt
late-of limits now limit failed undone (k ∷ ks) =
    let own = late-cond now (nat_lt (one_if (is_failed k.head.current)) failed) None (soonest now (dues_in limits (is_full limit undone) k)) tt (late-soonest now (dues_in limits (is_full limit undone) k)) in
    late-sooner now _ _ own (late-of limits now limit failed (undone + one_if (not (is_done k.head.current))) ks)

-- a turn that comes now comes first
pub now-first : (now : ℕ) (a : Turn) (b : Option Turn) → a.1 ≤ now → IsLate now b → sooner (Some a) b ≡ Some a
now-first now a None h l = refl
now-first now a (Some b) h l = let e : nat_lt b.1 a.1 ≡ false = grind (arith, nat_tests, h, l) in rw e refl

-- ---- a branch under child i, as the frame sees it

-- whether a sibling of it has failed
abbrev pub others : Family → List Family → Bool
others k ks = nat_lt (one_if (is_failed k.head.current)) (count_failed ks)

or-no : (a : Bool) → (a || false) ≡ a
or-no true = refl
or-no false = refl

due-child : (limits : Limits) (h : Held) (i : ℕ) (k : Family) (ks : List Family) → slice_get ks i ≡ Some k
    → due_at limits (branches_of (fam h ks)) (i ∷ []) ≡ (cond (others k ks) None (due_by (is_full (limit_of limits (map_in h.current)) (count_undone (take i ks))) (is_busy (children_at [] (branches_of k))) k.head.current))
due-child limits h i k ks g =
    let f = fam h ks in
    rw (
      stopped-by f h ks (i ∷ []) i [] k refl refl g,
      stopped-here k,
      or-no (others k ks),
      forker-here f h ks (i ∷ []) i [] refl refl refl,
      elders-here f h ks (i ∷ []) i [] refl refl refl,
      children-by f h ks (i ∷ []) i [] (Some k) refl refl g,
      record-by f h ks (i ∷ []) i [] (Some k) refl refl g,
    ) refl

either : (a b : Bool) (o : Option ℕ) → cond (a || b) None o ≡ cond a None (cond b None o)
either true b o = refl
either false b o = refl

due-deeper : (limits : Limits) (h : Held) (i m : ℕ) (ms : List ℕ) (k : Family) (ks : List Family) → slice_get ks i ≡ Some k
    → due_at limits (branches_of (fam h ks)) (i ∷ m ∷ ms) ≡ cond (others k ks) None (due_at limits (branches_of k) (m ∷ ms))
due-deeper limits h i m ms k ks g =
    let f = fam h ks in
    let p : List ℕ = i ∷ m ∷ ms in
    let not-empty : m ∷ ms ≡ [] → ⊥ = λ e. (cc) in
    rw (
      stopped-by f h ks p i (m ∷ ms) k refl refl g,
      forker-by f h ks p i (m ∷ ms) (Some k) refl refl not-empty g,
      elders-by f h ks p i (m ∷ ms) (Some k) refl refl not-empty g,
      children-by f h ks p i (m ∷ ms) (Some k) refl refl g,
      record-by f h ks p i (m ∷ ms) (Some k) refl refl g,
    ) (either (others k ks) (is_stopped (m ∷ ms) (branches_of k)) _)

-- ---- the branches under child i

abbrev spot_due : Limits → Family → Spot → Due
spot_due limits f s = (s.held.place, due_at limits (branches_of f) (s.number ∷ s.deeper))

spots-stopped : (limits : Limits) (now : ℕ) (h : Held) (i : ℕ) (k : Family) (ks : List Family) (ss : List Spot) → slice_get ks i ≡ Some k → others k ks ≡ true → soonest now (map (spot_due limits (fam h ks)) (map (pushed i) ss)) ≡ None
spots-stopped limits now h i k ks [] g o = refl
spots-stopped limits now h i k ks (s ∷ ss) g o = rw (due-deeper limits h i s.number s.deeper k ks g, o) (none-sooner (soonest now (map (spot_due limits (fam h ks)) (map (pushed i) ss))) ∙ spots-stopped limits now h i k ks ss g o)

spots-free : (limits : Limits) (now : ℕ) (h : Held) (i : ℕ) (k : Family) (ks : List Family) (ss : List Spot) → slice_get ks i ≡ Some k → others k ks ≡ false → map (spot_due limits (fam h ks)) (map (pushed i) ss) ≡ map (spot_due limits k) ss
spots-free limits now h i k ks [] g o = refl
spots-free limits now h i k ks (s ∷ ss) g o = rw (due-deeper limits h i s.number s.deeper k ks g, o) (ap (λ ds. (s.held.place, due_at limits (branches_of k) (s.number ∷ s.deeper)) ∷ ds) (spots-free limits now h i k ks ss g o))

-- child i with all under it
abbrev child_dues : Limits → Held → List Family → ℕ → Family → List Due
child_dues limits h ks i k = (k.head.place, due_at limits (branches_of (fam h ks)) (i ∷ [])) ∷ map (spot_due limits (fam h ks)) (map (pushed i) k.below)

child-soonest : (limits : Limits) (now : ℕ) (h : Held) (i : ℕ) (k : Family) (ks : List Family) (o : Bool) → slice_get ks i ≡ Some k → others k ks ≡ o
    → soonest now (child_dues limits h ks i k) ≡ cond o None (soonest now (dues_in limits (is_full (limit_of limits (map_in h.current)) (count_undone (take i ks))) k))
child-soonest limits now h i k ks true g e = rw (due-child limits h i k ks g, e) (none-sooner (soonest now (map (spot_due limits (fam h ks)) (map (pushed i) k.below))) ∙ spots-stopped limits now h i k ks k.below g e)
child-soonest limits now h i k ks false g e = rw (due-child limits h i k ks g, e, spots-free limits now h i k ks k.below g e) refl

-- the children from number i on
under : (limits : Limits) (now : ℕ) (h : Held) (all : List Family) (i : ℕ) (ks : List Family) → ((j : ℕ) (k : Family) → slice_get ks j ≡ Some k → slice_get all (i + j) ≡ Some k)
    → soonest now (map (spot_due limits (fam h all)) (below_of i ks)) ≡ soonest_of limits now (limit_of limits (map_in h.current)) (count_failed all) (count_undone (take i all)) ks
under limits now h all i [] at = refl
under limits now h all i (k ∷ ks) at =
    let D = spot_due limits (fam h all) in
    let z : i + 0 ≡ i = omega arith in
    let g : slice_get all i ≡ Some k = rw z at (at 0 k refl) in
    let rest = under limits now h all (i + 1) ks (λ j x e. let s : i + suc j ≡ i + 1 + j = omega arith in rw s at (at (suc j) x e)) in
    let whole : map D (below_of i (k ∷ ks)) ≡ child_dues limits h all i k ++ map D (below_of (i + 1) ks) = ap (λ ds. (k.head.place, due_at limits (branches_of (fam h all)) (i ∷ [])) ∷ ds) (map-append D (map (pushed i) k.below) (below_of (i + 1) ks)) in
    ap (soonest now) whole
    ∙ soonest-append now (child_dues limits h all i k) (map D (below_of (i + 1) ks))
    ∙ rw (child-soonest limits now h i k all (others k all) g refl, rest, undone-more all i k g) refl

from-start : (ks : List Family) (j : ℕ) (k : Family) → slice_get ks j ≡ Some k → slice_get ks (0 + j) ≡ Some k
from-start ks j k e = let s : 0 + j ≡ j = omega arith in rw s e

-- a walk over the children
pub walked : (limits : Limits) (now : ℕ) (self : Family) (h : Held) (ks : List Family) → fam h ks ≡ self
    → soonest now (dues_below limits self) ≡ soonest_of limits now (limit_of limits (map_in h.current)) (count_failed ks) 0 ks
walked limits now self h ks v = ap (λ (z : Family). soonest now (dues_below limits z)) (sym v) ∙ under limits now h ks 0 ks (from-start ks)

-- ---- from the root

nodes-dues : (limits : Limits) (f : Family) (ss : List Spot) → map (λ (n : Node). (n.held.place, due_at limits (branches_of f) n.place)) (map node_of ss) ≡ map (spot_due limits f) ss
nodes-dues limits f [] = refl
nodes-dues limits f (s ∷ ss) = ap (λ ds. spot_due limits f s ∷ ds) (nodes-dues limits f ss)

pub from-root : (limits : Limits) (f : Family) → dues_of limits f ≡ dues_in limits false f
from-root limits f =
    let first : due_at limits (branches_of f) [] ≡ due_by false (is_busy (children_at [] (branches_of f))) f.head.current = rw (stopped-here f, forker-root f [] refl) refl in
    (λ i. (f.head.place, first i) ∷ nodes-dues limits f f.below i)

-- ---- a walk over the children, turn by turn

-- the first turn so far comes now, so it is the first of all
pub comes-now : {T : Type 0} (now : ℕ) (turn : T → Turn) (first : Option T) (rest whole : Option Turn) → IfSome first (λ t. (turn t).1 ≤ now) → is_some first ≡ true → IsLate now rest
    → sooner (option_map turn first) rest ≡ whole → option_map turn first ≡ whole
comes-now now turn None rest whole h s l e = (cc)
comes-now now turn (Some t) rest whole h s l e = sym (now-first now (turn t) rest h l) ∙ e

-- one child more
pub one-more : (limits : Limits) (now limit failed undone more : ℕ) (first turn next whole : Option Turn) (k : Family) (ks all : List Family) (stopped crowded : Bool)
    → all ≡ k ∷ ks
    → sooner first (soonest_of limits now limit failed undone all) ≡ whole
    → turn ≡ cond stopped None (soonest now (dues_in limits crowded k))
    → stopped ≡ nat_lt (one_if (is_failed k.head.current)) failed
    → crowded ≡ is_full limit undone
    → more ≡ undone + one_if (not (is_done k.head.current))
    → next ≡ sooner first turn
    → sooner next (soonest_of limits now limit failed more ks) ≡ whole
one-more limits now limit failed undone more first turn next whole k ks all stopped crowded ea w et es ec em en =
    let t : turn ≡ cond (nat_lt (one_if (is_failed k.head.current)) failed) None (soonest now (dues_in limits (is_full limit undone) k)) = rw (← es, ← ec) et in
    let rest : Option Turn = soonest_of limits now limit failed (undone + one_if (not (is_done k.head.current))) ks in
    let u : sooner first (soonest_of limits now limit failed undone (k ∷ ks)) ≡ whole = rw ea at w in
    let s : sooner first (sooner turn rest) ≡ whole = rw t u in
    rw (en, em) (sym (sooner-assoc first turn rest) ∙ s)
