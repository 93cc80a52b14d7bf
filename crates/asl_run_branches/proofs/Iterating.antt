-- The innermost iteration that a place is in, and the siblings before it, down a tree.
use Rattle.std.proofs.Common.{ℕ, suc, zero, ◌≡◌, ◌≢◌, ◌+◌, ◌<◌, ◌≤◌, ◌==◌, Bool, true, false, not, List, [], ◌∷◌, ◌++◌, refl, sym, ◌∙◌, ap, subst, arith, cond, Some, None, map, take, length}
use Rattle.std.specs.Prelude.{slice_get, nat_lt, nat_le, option_map}
use Rattle.std.proofs.lemmas.Grind.{common_steps}
use Rattle.std.proofs.lemmas.Bool.Decides.{nat_tests}
use Rattle.asl_step.specs.Records.{is_done}
use Rattle.std.specs.Option.{option_or}
use Rattle.std.specs.declared.option.Option.{Option}
use Rattle.asl_json_data.specs.Data.{Data}
use Rattle.asl_step.specs.declared.record.Record.{Record}
use Rattle.asl_step.specs.declared.record.Record.TheVariants.{New, Ready, Pausing, Again, Forked, Done, Failed}
use Rattle.asl_run_branches.specs.Branches.{Branch, beyond, iteration_in, iteration_at, is_elder, elders_at, undone_in}
use Rattle.asl_run_branches.specs.Trees.{Held, Spot, Family, pushed, branch_of, branches_of, count_undone, one_if}
use Rattle.asl_run_branches.proofs.Reading.{neq-false, eq-true, sub, flat, flat-cons, fam, at, currents, currents-append, IsInChild, currents_in, in-child}

or-none : (o : Option (ℕ × Data)) → option_or o None ≡ o
or-none None = refl
or-none (Some x) = refl

or-or : (a b c : Option (ℕ × Data)) → option_or (option_or a b) c ≡ option_or a (option_or b c)
or-or None b c = refl
or-or (Some x) b c = refl

iteration-append : (p : List ℕ) (xs ys : List Branch) → iteration_at p (xs ++ ys) ≡ option_or (iteration_at p ys) (iteration_at p xs)
iteration-append p [] ys = sym (or-none (iteration_at p ys))
iteration-append p (x ∷ xs) ys = rw (iteration-append p xs ys) (or-or (iteration_at p ys) (iteration_at p xs) (iteration_in x.current (beyond x.place p)))

nowhere : (r : Record) → iteration_in r None ≡ None
nowhere (New n x) = refl
nowhere (Ready n x) = refl
nowhere (Pausing n x since until) = refl
nowhere (Again n x since uses until) = refl
nowhere (Forked n x since uses items) = refl
nowhere (Done x) = refl
nowhere (Failed e) = refl

spots-iteration : (n : ℕ) (ns : List ℕ) (ss : List Spot) → iteration_at (n ∷ ns) (map branch_of (map (pushed n) ss)) ≡ iteration_at ns (map branch_of ss)
spots-iteration n ns [] = refl
spots-iteration n ns (s ∷ ss) = rw (eq-true n, spots-iteration n ns ss) refl

sub-iteration : (n : ℕ) (ns : List ℕ) (k : Family) → iteration_at (n ∷ ns) (sub n k) ≡ iteration_at ns (branches_of k)
sub-iteration n ns k = rw (eq-true n, spots-iteration n ns k.below) refl

spots-other : (n m : ℕ) (ns : List ℕ) (ss : List Spot) → m ≢ n → iteration_at (n ∷ ns) (map branch_of (map (pushed m) ss)) ≡ None
spots-other n m ns [] d = refl
spots-other n m ns (s ∷ ss) d = rw (neq-false m n d, spots-other n m ns ss d) (nowhere s.held.current)

sub-other : (n m : ℕ) (ns : List ℕ) (k : Family) → m ≢ n → iteration_at (n ∷ ns) (sub m k) ≡ None
sub-other n m ns k d = rw (neq-false m n d, spots-other n m ns k.below d) (nowhere k.head.current)

past : (n i : ℕ) (ns : List ℕ) (ks : List Family) → n < i → iteration_at (n ∷ ns) (flat i ks) ≡ None
past n i ns [] l = refl
past n i ns (k ∷ ks) l = ap (iteration_at (n ∷ ns)) (flat-cons i k ks) ∙ iteration-append (n ∷ ns) (sub i k) (flat (i + 1) ks) ∙ rw (sub-other n i ns k (λ x. omega arith), past n (i + 1) ns ks (omega arith)) refl

abbrev pub iteration_child : List ℕ → Option Family → Option (ℕ × Data)
iteration_child p None = None
iteration_child p (Some k) = iteration_at p (branches_of k)

iteration-child : (n i j : ℕ) (ns : List ℕ) (ks : List Family) → n ≡ i + j → iteration_at (n ∷ ns) (flat i ks) ≡ iteration_child ns (slice_get ks j)
iteration-child n i j ns [] e = refl
iteration-child n i zero ns (k ∷ ks) e =
    let m : n ≡ i = omega arith in
    ap (iteration_at (n ∷ ns)) (flat-cons i k ks) ∙ iteration-append (n ∷ ns) (sub i k) (flat (i + 1) ks) ∙ rw (past n (i + 1) ns ks (omega arith)) (subst (λ z. iteration_at (n ∷ ns) (sub z k) ≡ iteration_at ns (branches_of k)) m (sub-iteration n ns k))
iteration-child n i (suc j) ns (k ∷ ks) e =
    ap (iteration_at (n ∷ ns)) (flat-cons i k ks) ∙ iteration-append (n ∷ ns) (sub i k) (flat (i + 1) ks) ∙ rw (sub-other n i ns k (λ x. omega arith)) (or-none (iteration_at (n ∷ ns) (flat (i + 1) ks)) ∙ iteration-child n (i + 1) j ns ks (omega arith))

pub iteration-by : (self : Family) (h : Held) (ks : List Family) (p : List ℕ) (n : ℕ) (ns : List ℕ) (o : Option Family) → fam h ks ≡ self → p ≡ n ∷ ns → slice_get ks n ≡ o → iteration_at p (branches_of self) ≡ option_or (iteration_child ns o) (iteration_in h.current (Some (n ∷ ns)))
iteration-by self h ks p n ns o v e g =
    ap (λ (z : List ℕ). iteration_at z (branches_of self)) e
    ∙ ap (λ (z : Family). iteration_at (n ∷ ns) (branches_of z)) (sym v)
    ∙ ap (λ z. option_or z (iteration_in h.current (Some (n ∷ ns)))) (iteration-child n 0 n ns ks (omega arith) ∙ ap (iteration_child ns) g)

spots-root : (ss : List Spot) → iteration_at [] (map branch_of ss) ≡ None
spots-root [] = refl
spots-root (s ∷ ss) = rw (spots-root ss) (nowhere s.held.current)

deepest : (r : Record) → iteration_in r (Some []) ≡ None
deepest (New n x) = refl
deepest (Ready n x) = refl
deepest (Pausing n x since until) = refl
deepest (Again n x since uses until) = refl
deepest (Forked n x since uses items) = refl
deepest (Done x) = refl
deepest (Failed e) = refl

pub iteration-root : (self : Family) (p : List ℕ) → p ≡ [] → iteration_at p (branches_of self) ≡ None
iteration-root self p e = ap (λ (z : List ℕ). iteration_at z (branches_of self)) e ∙ rw (spots-root self.below) (deepest self.head.current)

-- ---- the siblings before a place

elder-in : (n m : ℕ) (ns : List ℕ) → IsInChild (is_elder (n ∷ m ∷ ns)) n (is_elder (m ∷ ns))
elder-in n m ns = record {
  here = λ q. rw (eq-true n) refl;
  other = λ k d q. rw (neq-false n k (λ e. d (sym e))) refl;
}

abbrev pub elders_in : List ℕ → Option Family → List Record
elders_in p None = []
elders_in p (Some k) = elders_at p (branches_of k)

elders_in-is : (p : List ℕ) (o : Option Family) → currents_in (is_elder p) o ≡ elders_in p o
elders_in-is p None = refl
elders_in-is p (Some k) = refl

elders-below : (h : Held) (n m : ℕ) (ns : List ℕ) (ks : List Family) → elders_at (n ∷ m ∷ ns) (branches_of (fam h ks)) ≡ elders_in (m ∷ ns) (slice_get ks n)
elders-below h n m ns ks = in-child (is_elder (n ∷ m ∷ ns)) (is_elder (m ∷ ns)) n 0 n ks (elder-in n m ns) (omega arith) ∙ elders_in-is (m ∷ ns) (slice_get ks n)

pub elders-by : (self : Family) (h : Held) (ks : List Family) (p : List ℕ) (n : ℕ) (ns : List ℕ) (o : Option Family) → fam h ks ≡ self → p ≡ n ∷ ns → (ns ≡ [] → ⊥) → slice_get ks n ≡ o → elders_at p (branches_of self) ≡ elders_in ns o
elders-by self h ks p n [] o v e d g = absurd (d refl)
elders-by self h ks p n (m ∷ ns) o v e d g = ap (λ (z : List ℕ). elders_at z (branches_of self)) e ∙ ap (λ (z : Family). elders_at (n ∷ m ∷ ns) (branches_of z)) (sym v) ∙ elders-below h n m ns ks ∙ ap (elders_in (m ∷ ns)) g

undone-append : (xs ys : List Record) → undone_in (xs ++ ys) ≡ undone_in xs + undone_in ys
undone-append [] ys = omega arith
undone-append (x ∷ xs) ys = let r = undone-append xs ys in omega (arith, r)

spots-deep : (n i : ℕ) (ss : List Spot) → at (is_elder (n ∷ [])) (map branch_of (map (pushed i) ss)) ≡ []
spots-deep n i [] = refl
spots-deep n i (s ∷ ss) = spots-deep n i ss

lt-no : (i n : ℕ) → n ≤ i → nat_lt i n ≡ false
lt-no i n l = grind (arith, nat_tests, l)

lt-yes : (i n : ℕ) → i < n → nat_lt i n ≡ true
lt-yes i n l = grind (arith, nat_tests, l)

sub-later : (n i : ℕ) (k : Family) → n ≤ i → currents (is_elder (n ∷ [])) (sub i k) ≡ []
sub-later n i k l = rw (lt-no i n l, spots-deep n i k.below) refl

sub-earlier : (n i : ℕ) (k : Family) → i < n → currents (is_elder (n ∷ [])) (sub i k) ≡ k.head.current ∷ []
sub-earlier n i k l = rw (lt-yes i n l, spots-deep n i k.below) refl

all-later : (n i : ℕ) (ks : List Family) → n ≤ i → currents (is_elder (n ∷ [])) (flat i ks) ≡ []
all-later n i [] l = refl
all-later n i (k ∷ ks) l = ap (currents (is_elder (n ∷ []))) (flat-cons i k ks) ∙ currents-append (is_elder (n ∷ [])) (sub i k) (flat (i + 1) ks) ∙ rw (sub-later n i k l, all-later n (i + 1) ks (omega arith)) refl

elders-count : (n i j : ℕ) (ks : List Family) → n ≡ i + j → undone_in (currents (is_elder (n ∷ [])) (flat i ks)) ≡ count_undone (take j ks)
elders-count n i zero ks e = ap undone_in (all-later n i ks (omega arith))
elders-count n i (suc j) [] e = refl
elders-count n i (suc j) (k ∷ ks) e =
    ap undone_in (ap (currents (is_elder (n ∷ []))) (flat-cons i k ks) ∙ currents-append (is_elder (n ∷ [])) (sub i k) (flat (i + 1) ks) ∙ ap (λ rs. rs ++ currents (is_elder (n ∷ [])) (flat (i + 1) ks)) (sub-earlier n i k (omega arith)))
    ∙ rw (elders-count n (i + 1) j ks (omega arith)) (plus (is_done k.head.current) (count_undone (take j ks)))
  where
    plus : (b : Bool) (m : ℕ) → cond b 0 1 + m ≡ one_if (not b) + m
    plus true m = refl
    plus false m = refl

pub elders-here : (self : Family) (h : Held) (ks : List Family) (p : List ℕ) (n : ℕ) (ns : List ℕ) → fam h ks ≡ self → p ≡ n ∷ ns → ns ≡ [] → undone_in (elders_at p (branches_of self)) ≡ count_undone (take n ks)
elders-here self h ks p n ns v e d =
    ap (λ (z : List ℕ). undone_in (elders_at z (branches_of self))) (e ∙ ap (λ (z : List ℕ). n ∷ z) d)
    ∙ ap (λ (z : Family). undone_in (elders_at (n ∷ []) (branches_of z))) (sym v)
    ∙ elders-count n 0 n ks (omega arith)

spots-young : (ss : List Spot) → at (is_elder []) (map branch_of ss) ≡ []
spots-young [] = refl
spots-young (s ∷ ss) = spots-young ss

pub elders-root : (self : Family) (p : List ℕ) → p ≡ [] → undone_in (elders_at p (branches_of self)) ≡ 0
elders-root self p e = ap (λ (z : List ℕ). undone_in (elders_at z (branches_of self))) e ∙ ap (λ bs. undone_in (map (λ b. b.current) bs)) (spots-young self.below)

pub none-left : (slots n : ℕ) → n ≡ 0 → (slots == 0) ≡ nat_le slots n
none-left slots n e = rw e (grind (arith, nat_tests, common_steps))

pub or-maps : {A B : Type 0} (f : A → B) (a b : Option A) → option_map f (option_or a b) ≡ option_or (option_map f a) (option_map f b)
or-maps f None b = refl
or-maps f (Some x) b = refl

pub no-more : (ns : List ℕ) → (length ns == 0) ≡ true → ns ≡ []
no-more [] e = refl
no-more (n ∷ ns) e = absurd (grind (arith, nat_tests, common_steps, e))

pub both : {a b : Option (ℕ × Data)} {x y : Option (ℕ × Data)} → a ≡ x → b ≡ y → option_or a b ≡ option_or x y
both e d = rw (e, d) refl
