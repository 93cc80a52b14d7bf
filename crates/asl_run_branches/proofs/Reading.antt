-- Down a tree of branches.
use Rattle.std.proofs.Common.{ℕ, suc, zero, ◌≡◌, ◌≢◌, ◌+◌, ◌<◌, ◌≤◌, ◌==◌, ◌&&◌, ◌||◌, Bool, true, false, not, List, [], ◌∷◌, ◌++◌, refl, sym, ◌∙◌, ap, subst, arith, cond, Some, None, map, max}
use Rattle.std.specs.Prelude.{slice_get, nat_lt, IfSome, is_some, option_map}
use Rattle.std.proofs.lemmas.Grind.{common_steps}
use Rattle.std.proofs.lemmas.List.{append-nil, map-append}
use Rattle.std.proofs.lemmas.List.Elements.{filter-append}
use Rattle.std.proofs.lemmas.List.Folds.{list_any-append}
use Rattle.std.specs.List.{filter, list_any, list_all}
use Rattle.std.specs.declared.option.Option.{Option}
use Rattle.asl_history.specs.Places.{is_child, is_beside}
use Rattle.asl_step.specs.declared.record.Record.{Record}
use Rattle.asl_step.specs.Records.{is_failed, is_done}
use Rattle.asl_run_branches.specs.Branches.{Branch, same_place, first_of, record_at, children_at, is_stopped, is_busy}
use Rattle.asl_run_branches.specs.Trees.{Held, Spot, Family, Node, pushed, below_of, branch_of, branches_of, node_of, nodes_of, count_undone, count_failed, one_if}
use Rattle.asl_run_branches.specs.Orders.{record_in}
use Rattle.asl_run_branches.specs.private.Links.{known, latest}

pub neq-false : (i k : ℕ) → i ≢ k → (i == k) ≡ false
neq-false i k n = grind (arith, common_steps)

pub eq-true : (x : ℕ) → (x == x) ≡ true
eq-true x = grind (arith, common_steps)

-- the branches of child i, as its frame sees them
abbrev pub sub : ℕ → Family → List Branch
sub i k = record { place = i ∷ []; current = k.head.current } ∷ map branch_of (map (pushed i) k.below)

abbrev pub flat : ℕ → List Family → List Branch
flat i ks = map branch_of (below_of i ks)

pub flat-cons : (i : ℕ) (k : Family) (ks : List Family) → flat i (k ∷ ks) ≡ sub i k ++ flat (i + 1) ks
flat-cons i k ks = ap (λ xs. record { place = i ∷ []; current = k.head.current } ∷ xs) (map-append branch_of (map (pushed i) k.below) (below_of (i + 1) ks))

-- ---- by a test of the places

abbrev pub at : (List ℕ → Bool) → List Branch → List Branch
at T bs = filter (λ b. T b.place) bs

abbrev pub currents : (List ℕ → Bool) → List Branch → List Record
currents T bs = map (λ b. b.current) (at T bs)

pub currents-append : (T : List ℕ → Bool) (xs ys : List Branch) → currents T (xs ++ ys) ≡ currents T xs ++ currents T ys
currents-append T xs ys = ap (map (λ b. b.current)) (filter-append (λ b. T b.place) xs ys) ∙ map-append (λ b. b.current) (at T xs) (at T ys)

spots-same : (T U : List ℕ → Bool) (i : ℕ) (ss : List Spot) → ((q : List ℕ) → T (i ∷ q) ≡ U q) → currents T (map branch_of (map (pushed i) ss)) ≡ currents U (map branch_of ss)
spots-same T U i [] same = refl
spots-same T U i (s ∷ ss) same = rw (same (s.number ∷ s.deeper)) (one (spots-same T U i ss same) (U (s.number ∷ s.deeper)))
  where
    one : currents T (map branch_of (map (pushed i) ss)) ≡ currents U (map branch_of ss) → (c : Bool) → map (λ b. b.current) (cond c (branch_of (pushed i s) ∷ at T (map branch_of (map (pushed i) ss))) (at T (map branch_of (map (pushed i) ss)))) ≡ map (λ b. b.current) (cond c (branch_of s ∷ at U (map branch_of ss)) (at U (map branch_of ss)))
    one r true = ap (λ xs. s.held.current ∷ xs) r
    one r false = r

sub-same : (T U : List ℕ → Bool) (i : ℕ) (k : Family) → ((q : List ℕ) → T (i ∷ q) ≡ U q) → currents T (sub i k) ≡ currents U (branches_of k)
sub-same T U i k same = rw (same []) (one (U []))
  where
    one : (c : Bool) → map (λ b. b.current) (cond c (record { place = i ∷ []; current = k.head.current } ∷ at T (map branch_of (map (pushed i) k.below))) (at T (map branch_of (map (pushed i) k.below)))) ≡ map (λ b. b.current) (cond c (record { place = []; current = k.head.current } ∷ at U (map branch_of k.below)) (at U (map branch_of k.below)))
    one true = ap (λ xs. k.head.current ∷ xs) (spots-same T U i k.below same)
    one false = spots-same T U i k.below same

spots-missed : (T : List ℕ → Bool) (i : ℕ) (ss : List Spot) → ((q : List ℕ) → T (i ∷ q) ≡ false) → at T (map branch_of (map (pushed i) ss)) ≡ []
spots-missed T i [] none = refl
spots-missed T i (s ∷ ss) none = rw (none (s.number ∷ s.deeper)) (spots-missed T i ss none)

sub-missed : (T : List ℕ → Bool) (i : ℕ) (k : Family) → ((q : List ℕ) → T (i ∷ q) ≡ false) → currents T (sub i k) ≡ []
sub-missed T i k none = rw (none [], spots-missed T i k.below none) refl

-- a test that passes only places in child n, and there those that pass the other test
pub record IsInChild (T : List ℕ → Bool) (n : ℕ) (U : List ℕ → Bool) : Type 0 where
  pub here : (q : List ℕ) → T (n ∷ q) ≡ U q
  pub other : (m : ℕ) → m ≢ n → (q : List ℕ) → T (m ∷ q) ≡ false

past : (T U : List ℕ → Bool) (n i : ℕ) (ks : List Family) → IsInChild T n U → n < i → currents T (flat i ks) ≡ []
past T U n i [] t l = refl
past T U n i (k ∷ ks) t l = ap (currents T) (flat-cons i k ks) ∙ currents-append T (sub i k) (flat (i + 1) ks) ∙ rw (sub-missed T i k (t.other i (λ x. omega arith)), past T U n (i + 1) ks t (omega arith)) refl

abbrev pub currents_in : (List ℕ → Bool) → Option Family → List Record
currents_in U None = []
currents_in U (Some k) = currents U (branches_of k)

pub in-child : (T U : List ℕ → Bool) (n i j : ℕ) (ks : List Family) → IsInChild T n U → n ≡ i + j → currents T (flat i ks) ≡ currents_in U (slice_get ks j)
in-child T U n i j [] t e = refl
in-child T U n i zero (k ∷ ks) t e =
    let m : n ≡ i = omega arith in
    ap (currents T) (flat-cons i k ks) ∙ currents-append T (sub i k) (flat (i + 1) ks) ∙ rw (past T U n (i + 1) ks t (omega arith)) (append-nil (currents T (sub i k))) ∙ sub-same T U i k (subst (λ z. (q : List ℕ) → T (z ∷ q) ≡ U q) m t.here)
in-child T U n i (suc j) (k ∷ ks) t e =
    ap (currents T) (flat-cons i k ks) ∙ currents-append T (sub i k) (flat (i + 1) ks) ∙ rw (sub-missed T i k (t.other i (λ x. omega arith))) (in-child T U n (i + 1) j ks t (omega arith))

and-of : (n m : ℕ) (b : Bool) → m ≢ n → ((n == m) && b) ≡ false
and-of n m b d = rw (neq-false n m (λ e. d (sym e))) refl

and-here : (n : ℕ) (b : Bool) → ((n == n) && b) ≡ b
and-here n b = rw (eq-true n) refl

same-in : (n : ℕ) (ns : List ℕ) → IsInChild (same_place (n ∷ ns)) n (same_place ns)
same-in n ns = record { here = λ q. and-here n (same_place ns q); other = λ m d q. and-of n m (same_place ns q) d }

child-in : (n : ℕ) (ns : List ℕ) → IsInChild (is_child (n ∷ ns)) n (is_child ns)
child-in n ns = record { here = λ q. and-here n (is_child ns q); other = λ m d q. and-of n m (is_child ns q) d }

abbrev pub head_of : List Record → Option Record
head_of [] = None
head_of (r ∷ rs) = Some r

pub first-head : (bs : List Branch) → first_of bs ≡ head_of (map (λ b. b.current) bs)
first-head [] = refl
first-head (b ∷ bs) = refl

-- ---- what is read at a place below

record_in-head : (ns : List ℕ) (o : Option Family) → head_of (currents_in (same_place ns) o) ≡ record_in ns o
record_in-head ns None = refl
record_in-head ns (Some k) = sym (first-head (at (same_place ns) (branches_of k)))

pub record-below : (h : Held) (n : ℕ) (ns : List ℕ) (ks : List Family) → record_at (n ∷ ns) (branches_of (record { head = h; below = below_of 0 ks })) ≡ record_in ns (slice_get ks n)
record-below h n ns ks = first-head (at (same_place (n ∷ ns)) (flat 0 ks)) ∙ ap head_of (in-child (same_place (n ∷ ns)) (same_place ns) n 0 n ks (same-in n ns) (omega arith)) ∙ record_in-head ns (slice_get ks n)

abbrev pub children_in : List ℕ → Option Family → List Record
children_in p None = []
children_in p (Some k) = children_at p (branches_of k)

children_in-is : (ns : List ℕ) (o : Option Family) → currents_in (is_child ns) o ≡ children_in ns o
children_in-is ns None = refl
children_in-is ns (Some k) = refl

pub children-below : (h : Held) (n : ℕ) (ns : List ℕ) (ks : List Family) → children_at (n ∷ ns) (branches_of (record { head = h; below = below_of 0 ks })) ≡ children_in ns (slice_get ks n)
children-below h n ns ks = in-child (is_child (n ∷ ns)) (is_child ns) n 0 n ks (child-in n ns) (omega arith) ∙ children_in-is ns (slice_get ks n)

-- ---- stopped

and-no : (a : Bool) → (a && false) ≡ false
and-no true = refl
and-no false = refl

and-yes : (a : Bool) → (a && true) ≡ a
and-yes true = refl
and-yes false = refl

beside-none : (p : List ℕ) → is_beside p [] ≡ false
beside-none [] = refl
beside-none (x ∷ xs) = refl

spots-stopped : (n : ℕ) (ns : List ℕ) (ss : List Spot) → is_stopped (n ∷ ns) (map branch_of (map (pushed n) ss)) ≡ is_stopped ns (map branch_of ss)
spots-stopped n ns [] = refl
spots-stopped n ns (s ∷ ss) = rw (and-here n (is_beside ns (s.number ∷ s.deeper)), spots-stopped n ns ss) refl

spots-apart : (n m : ℕ) (ns : List ℕ) (ss : List Spot) → m ≢ n → is_stopped (n ∷ ns) (map branch_of (map (pushed m) ss)) ≡ false
spots-apart n m ns [] d = refl
spots-apart n m ns (s ∷ ss) d = rw (and-of n m (is_beside ns (s.number ∷ s.deeper)) d, and-no (is_failed s.held.current), spots-apart n m ns ss d) refl

sub-stopped : (n : ℕ) (ns : List ℕ) (k : Family) → is_stopped (n ∷ ns) (sub n k) ≡ is_stopped ns (branches_of k)
sub-stopped n ns k = rw (eq-true n, beside-none ns, and-no (is_failed k.head.current), spots-stopped n ns k.below) refl

or-no : (a : Bool) → (a || false) ≡ a
or-no true = refl
or-no false = refl

sub-apart : (n m : ℕ) (ns : List ℕ) (k : Family) → m ≢ n → is_stopped (n ∷ ns) (sub m k) ≡ is_failed k.head.current
sub-apart n m ns k d = rw (neq-false n m (λ e. d (sym e)), and-yes (is_failed k.head.current), spots-apart n m ns k.below d) (or-no (is_failed k.head.current))

stopped-append : (p : List ℕ) (xs ys : List Branch) → is_stopped p (xs ++ ys) ≡ (is_stopped p xs || is_stopped p ys)
stopped-append p xs ys = list_any-append (λ b. is_failed b.current && is_beside p b.place) xs ys

some-more : (c : Bool) (m : ℕ) → (c || nat_lt 0 m) ≡ nat_lt 0 (one_if c + m)
some-more true m = grind (arith, common_steps)
some-more false m = let e : 0 + m ≡ m = omega arith in rw e refl

stopped-past : (n i : ℕ) (ns : List ℕ) (ks : List Family) → n < i → is_stopped (n ∷ ns) (flat i ks) ≡ nat_lt 0 (count_failed ks)
stopped-past n i ns [] l = refl
stopped-past n i ns (k ∷ ks) l = ap (is_stopped (n ∷ ns)) (flat-cons i k ks) ∙ stopped-append (n ∷ ns) (sub i k) (flat (i + 1) ks) ∙ rw (sub-apart n i ns k (λ x. omega arith), stopped-past n (i + 1) ns ks (omega arith)) (some-more (is_failed k.head.current) (count_failed ks))

one-counted : (j : ℕ) (k : Family) (ks : List Family) → slice_get ks j ≡ Some k → one_if (is_failed k.head.current) ≤ count_failed ks
one-counted j k [] e = (cc)
one-counted zero k (c ∷ cs) e = let s : c ≡ k = cc in rw s (omega arith)
one-counted (suc j) k (c ∷ cs) e = let r = one-counted j k cs e in omega (arith, r)

others-first : (c s : Bool) (m : ℕ) → (s || nat_lt 0 m) ≡ (nat_lt (one_if c) (one_if c + m) || s)
others-first c true m = sym (or-true (nat_lt (one_if c) (one_if c + m)))
  where
    or-true : (a : Bool) → (a || true) ≡ true
    or-true true = refl
    or-true false = refl
others-first true false m = let e : nat_lt 0 m ≡ nat_lt 1 (1 + m) = grind (arith, common_steps) in rw e (sym (or-no (nat_lt 1 (1 + m))))
others-first false false m = let e : 0 + m ≡ m = omega arith in rw e (sym (or-no (nat_lt 0 m)))

others-next : (d c s : Bool) (m : ℕ) → one_if c ≤ m → (d || (nat_lt (one_if c) m || s)) ≡ (nat_lt (one_if c) (one_if d + m) || s)
others-next true c s m l = let e : nat_lt (one_if c) (1 + m) ≡ true = grind (arith, common_steps) in rw e refl
others-next false c s m l = let e : 0 + m ≡ m = omega arith in rw e refl

stopped-in : (n i j : ℕ) (ns : List ℕ) (k : Family) (ks : List Family) → n ≡ i + j → slice_get ks j ≡ Some k → is_stopped (n ∷ ns) (flat i ks) ≡ (nat_lt (one_if (is_failed k.head.current)) (count_failed ks) || is_stopped ns (branches_of k))
stopped-in n i j ns k [] e g = (cc)
stopped-in n i zero ns k (c ∷ cs) e g =
    let m : n ≡ i = omega arith in
    let s : c ≡ k = cc in
    ap (is_stopped (n ∷ ns)) (flat-cons i c cs) ∙ stopped-append (n ∷ ns) (sub i c) (flat (i + 1) cs) ∙ rw (stopped-past n (i + 1) ns cs (omega arith), subst (λ z. is_stopped (n ∷ ns) (sub z c) ≡ is_stopped ns (branches_of c)) m (sub-stopped n ns c)) (rw s (others-first (is_failed k.head.current) (is_stopped ns (branches_of k)) (count_failed cs)))
stopped-in n i (suc j) ns k (c ∷ cs) e g =
    ap (is_stopped (n ∷ ns)) (flat-cons i c cs) ∙ stopped-append (n ∷ ns) (sub i c) (flat (i + 1) cs) ∙ rw (sub-apart n i ns c (λ x. omega arith), stopped-in n (i + 1) j ns k cs (omega arith) g) (others-next (is_failed c.head.current) (is_failed k.head.current) (is_stopped ns (branches_of k)) (count_failed cs) (one-counted j k cs g))

pub stopped-below : (h : Held) (n : ℕ) (ns : List ℕ) (k : Family) (ks : List Family) → slice_get ks n ≡ Some k → is_stopped (n ∷ ns) (branches_of (record { head = h; below = below_of 0 ks })) ≡ (nat_lt (one_if (is_failed k.head.current)) (count_failed ks) || is_stopped ns (branches_of k))
stopped-below h n ns k ks g = rw (and-no (is_failed h.current)) (or-false (is_stopped (n ∷ ns) (flat 0 ks))) ∙ stopped-in n 0 n ns k ks (omega arith) g
  where
    or-false : (a : Bool) → (false || a) ≡ a
    or-false a = refl

spots-calm : (ss : List Spot) → is_stopped [] (map branch_of ss) ≡ false
spots-calm [] = refl
spots-calm (s ∷ ss) = rw (and-no (is_failed s.held.current)) (spots-calm ss)

pub stopped-here : (f : Family) → is_stopped [] (branches_of f) ≡ false
stopped-here f = rw (and-no (is_failed f.head.current)) (spots-calm f.below)

-- ---- busy

spots-deep : (i : ℕ) (ss : List Spot) → at (is_child []) (map branch_of (map (pushed i) ss)) ≡ []
spots-deep i [] = refl
spots-deep i (s ∷ ss) = spots-deep i ss

children-flat : (i : ℕ) (ks : List Family) → currents (is_child []) (flat i ks) ≡ map (λ k. k.head.current) ks
children-flat i [] = refl
children-flat i (k ∷ ks) = ap (currents (is_child [])) (flat-cons i k ks) ∙ currents-append (is_child []) (sub i k) (flat (i + 1) ks) ∙ rw (spots-deep i k.below) (ap (λ xs. k.head.current ∷ xs) (children-flat (i + 1) ks))

pub children-here : (h : Held) (ks : List Family) → children_at [] (branches_of (record { head = h; below = below_of 0 ks })) ≡ map (λ k. k.head.current) ks
children-here h ks = children-flat 0 ks

any-failed : (ks : List Family) → list_any is_failed (map (λ k. k.head.current) ks) ≡ nat_lt 0 (count_failed ks)
any-failed [] = refl
any-failed (k ∷ ks) = rw (any-failed ks) (some-more (is_failed k.head.current) (count_failed ks))

none-undone : (c : Bool) (m : ℕ) → (c && not (nat_lt 0 m)) ≡ not (nat_lt 0 (one_if (not c) + m))
none-undone true m = let e : 0 + m ≡ m = omega arith in rw e refl
none-undone false m = let e : nat_lt 0 (1 + m) ≡ true = grind (arith, common_steps) in rw e refl

all-done : (ks : List Family) → list_all is_done (map (λ k. k.head.current) ks) ≡ not (nat_lt 0 (count_undone ks))
all-done [] = refl
all-done (k ∷ ks) = rw (all-done ks) (none-undone (is_done k.head.current) (count_undone ks))

not-not : (b : Bool) → not (not b) ≡ b
not-not true = refl
not-not false = refl

pub busy-here : (h : Held) (ks : List Family) → is_busy (children_at [] (branches_of (record { head = h; below = below_of 0 ks }))) ≡ (not (nat_lt 0 (count_failed ks)) && nat_lt 0 (count_undone ks))
busy-here h ks = ap is_busy (children-here h ks) ∙ rw (any-failed ks, all-done ks, not-not (nat_lt 0 (count_undone ks))) refl

-- ---- the same with all that frames hold

-- the nodes of child i, as its frame sees them
abbrev pub nsub : ℕ → Family → List Node
nsub i k = record { place = i ∷ []; held = k.head } ∷ map node_of (map (pushed i) k.below)

abbrev pub nflat : ℕ → List Family → List Node
nflat i ks = map node_of (below_of i ks)

pub nflat-cons : (i : ℕ) (k : Family) (ks : List Family) → nflat i (k ∷ ks) ≡ nsub i k ++ nflat (i + 1) ks
nflat-cons i k ks = ap (λ xs. record { place = i ∷ []; held = k.head } ∷ xs) (map-append node_of (map (pushed i) k.below) (below_of (i + 1) ks))

-- ---- the latest event along a place

known-here : (n : ℕ) (ns q : List ℕ) (h : Held) → known (n ∷ ns) (n ∷ q) h ≡ known ns q h
known-here n ns q h = rw (eq-true n) refl

known-other : (n m : ℕ) (ns q : List ℕ) (h : Held) → m ≢ n → known (n ∷ ns) (m ∷ q) h ≡ 0
known-other n m ns q h d = rw (neq-false n m (λ e. d (sym e))) refl

pub latest-append : (p : List ℕ) (xs ys : List Node) → latest p (xs ++ ys) ≡ max (latest p xs) (latest p ys)
latest-append p [] ys = omega arith
latest-append p (x ∷ xs) ys = let r = latest-append p xs ys in omega (arith, r)

spots-latest : (n : ℕ) (ns : List ℕ) (ss : List Spot) → latest (n ∷ ns) (map node_of (map (pushed n) ss)) ≡ latest ns (map node_of ss)
spots-latest n ns [] = refl
spots-latest n ns (s ∷ ss) = rw (known-here n ns (s.number ∷ s.deeper) s.held, spots-latest n ns ss) refl

spots-other : (n m : ℕ) (ns : List ℕ) (ss : List Spot) → m ≢ n → latest (n ∷ ns) (map node_of (map (pushed m) ss)) ≡ 0
spots-other n m ns [] d = refl
spots-other n m ns (s ∷ ss) d = rw (known-other n m ns (s.number ∷ s.deeper) s.held d, spots-other n m ns ss d) refl

sub-latest : (n : ℕ) (ns : List ℕ) (k : Family) → latest (n ∷ ns) (nsub n k) ≡ latest ns (nodes_of k)
sub-latest n ns k = rw (known-here n ns [] k.head, spots-latest n ns k.below) refl

sub-other : (n m : ℕ) (ns : List ℕ) (k : Family) → m ≢ n → latest (n ∷ ns) (nsub m k) ≡ 0
sub-other n m ns k d = rw (known-other n m ns [] k.head d, spots-other n m ns k.below d) refl

latest-past : (n i : ℕ) (ns : List ℕ) (ks : List Family) → n < i → latest (n ∷ ns) (nflat i ks) ≡ 0
latest-past n i ns [] l = refl
latest-past n i ns (k ∷ ks) l = ap (latest (n ∷ ns)) (nflat-cons i k ks) ∙ latest-append (n ∷ ns) (nsub i k) (nflat (i + 1) ks) ∙ rw (sub-other n i ns k (λ x. omega arith), latest-past n (i + 1) ns ks (omega arith)) refl

abbrev pub latest_in : List ℕ → Option Family → ℕ
latest_in p None = 0
latest_in p (Some k) = latest p (nodes_of k)

max-zero : (a : ℕ) → max a 0 ≡ a
max-zero a = omega arith

max-left : (a : ℕ) → max 0 a ≡ a
max-left a = omega arith

latest-in : (n i j : ℕ) (ns : List ℕ) (ks : List Family) → n ≡ i + j → latest (n ∷ ns) (nflat i ks) ≡ latest_in ns (slice_get ks j)
latest-in n i j ns [] e = refl
latest-in n i zero ns (k ∷ ks) e =
    let m : n ≡ i = omega arith in
    ap (latest (n ∷ ns)) (nflat-cons i k ks) ∙ latest-append (n ∷ ns) (nsub i k) (nflat (i + 1) ks) ∙ rw (latest-past n (i + 1) ns ks (omega arith)) (max-zero (latest (n ∷ ns) (nsub i k))) ∙ subst (λ z. latest (n ∷ ns) (nsub z k) ≡ latest ns (nodes_of k)) m (sub-latest n ns k)
latest-in n i (suc j) ns (k ∷ ks) e =
    ap (latest (n ∷ ns)) (nflat-cons i k ks) ∙ latest-append (n ∷ ns) (nsub i k) (nflat (i + 1) ks) ∙ rw (sub-other n i ns k (λ x. omega arith)) (max-left (latest (n ∷ ns) (nflat (i + 1) ks))) ∙ latest-in n (i + 1) j ns ks (omega arith)

pub latest-below : (h : Held) (n : ℕ) (ns : List ℕ) (ks : List Family) → latest (n ∷ ns) (nodes_of (record { head = h; below = below_of 0 ks })) ≡ max h.at (latest_in ns (slice_get ks n))
latest-below h n ns ks = ap (max h.at) (latest-in n 0 n ns ks (omega arith))

spots-none : (ss : List Spot) → latest [] (map node_of ss) ≡ 0
spots-none [] = refl
spots-none (s ∷ ss) = rw (spots-none ss) refl

pub latest-here : (f : Family) → latest [] (nodes_of f) ≡ f.head.under
latest-here f = rw (spots-none f.below) (max-zero f.head.under)

-- ---- the same, by the values that the code has

abbrev pub fam : Held → List Family → Family
fam h ks = record { head = h; below = below_of 0 ks }

pub get-is : (items ks : List Family) (n : ℕ) (o x : Option Family) → items ≡ ks → o ≡ slice_get items n → o ≡ x → slice_get ks n ≡ x
get-is items ks n o x a b c = rw (← a) (sym b ∙ c)

pub record-by : (self : Family) (h : Held) (ks : List Family) (p : List ℕ) (n : ℕ) (ns : List ℕ) (o : Option Family) → fam h ks ≡ self → p ≡ n ∷ ns → slice_get ks n ≡ o → record_at p (branches_of self) ≡ record_in ns o
record-by self h ks p n ns o v e g = ap (λ (z : List ℕ). record_at z (branches_of self)) e ∙ ap (λ (z : Family). record_at (n ∷ ns) (branches_of z)) (sym v) ∙ record-below h n ns ks ∙ ap (record_in ns) g

pub children-by : (self : Family) (h : Held) (ks : List Family) (p : List ℕ) (n : ℕ) (ns : List ℕ) (o : Option Family) → fam h ks ≡ self → p ≡ n ∷ ns → slice_get ks n ≡ o → children_at p (branches_of self) ≡ children_in ns o
children-by self h ks p n ns o v e g = ap (λ (z : List ℕ). children_at z (branches_of self)) e ∙ ap (λ (z : Family). children_at (n ∷ ns) (branches_of z)) (sym v) ∙ children-below h n ns ks ∙ ap (children_in ns) g

pub latest-by : (self : Family) (h : Held) (ks : List Family) (p : List ℕ) (n : ℕ) (ns : List ℕ) (o : Option Family) → fam h ks ≡ self → p ≡ n ∷ ns → slice_get ks n ≡ o → latest p (nodes_of self) ≡ max h.at (latest_in ns o)
latest-by self h ks p n ns o v e g = ap (λ (z : List ℕ). latest z (nodes_of self)) e ∙ ap (λ (z : Family). latest (n ∷ ns) (nodes_of z)) (sym v) ∙ latest-below h n ns ks ∙ ap (λ z. max h.at (latest_in ns z)) g

pub stopped-by : (self : Family) (h : Held) (ks : List Family) (p : List ℕ) (n : ℕ) (ns : List ℕ) (k : Family) → fam h ks ≡ self → p ≡ n ∷ ns → slice_get ks n ≡ Some k → is_stopped p (branches_of self) ≡ (nat_lt (one_if (is_failed k.head.current)) (count_failed ks) || is_stopped ns (branches_of k))
stopped-by self h ks p n ns k v e g = ap (λ (z : List ℕ). is_stopped z (branches_of self)) e ∙ ap (λ (z : Family). is_stopped (n ∷ ns) (branches_of z)) (sym v) ∙ stopped-below h n ns k ks g

pub stopped-root : (self : Family) (p : List ℕ) → p ≡ [] → is_stopped p (branches_of self) ≡ false
stopped-root self p e = ap (λ (z : List ℕ). is_stopped z (branches_of self)) e ∙ stopped-here self

pub busy-root : (self : Family) (h : Held) (ks : List Family) (p : List ℕ) → fam h ks ≡ self → p ≡ [] → is_busy (children_at p (branches_of self)) ≡ (not (nat_lt 0 (count_failed ks)) && nat_lt 0 (count_undone ks))
busy-root self h ks p v e = ap (λ (z : List ℕ). is_busy (children_at z (branches_of self))) e ∙ ap (λ (z : Family). is_busy (children_at [] (branches_of z))) (sym v) ∙ busy-here h ks

pub latest-root : (self : Family) (p : List ℕ) → p ≡ [] → latest p (nodes_of self) ≡ self.head.under
latest-root self p e = ap (λ (z : List ℕ). latest z (nodes_of self)) e ∙ latest-here self

pub some-weaker : {A : Type 0} (o : Option A) (P Q : A → Type 0) → ((x : A) → P x → Q x) → IfSome o P → IfSome o Q
some-weaker None P Q f h = h
some-weaker (Some x) P Q f h = f x h

pub some-maps : {A B C : Type 0} (o : Option A) (q : Option C) (f : A → B) (g : C → B) → option_map f o ≡ option_map g q → is_some o ≡ is_some q
some-maps None None f g e = refl
some-maps None (Some y) f g e = absurd (cc)
some-maps (Some x) None f g e = absurd (cc)
some-maps (Some x) (Some y) f g e = refl

pub children-root : (self : Family) (h : Held) (ks : List Family) → fam h ks ≡ self → children_at [] (branches_of self) ≡ map (λ k. k.head.current) ks
children-root self h ks v = ap (λ (z : Family). children_at [] (branches_of z)) (sym v) ∙ children-here h ks

pub children-of : (self : Family) (ks : List Family) → self.below ≡ below_of 0 ks → children_at [] (branches_of self) ≡ map (λ k. k.head.current) ks
children-of self ks e = ap (λ (z : List Spot). children_at [] (branches_of (record { head = self.head; below = z }))) e ∙ children-here self.head ks
