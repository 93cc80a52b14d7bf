-- The lines of branches that run, along a walk down their tree.
use Rattle.std.proofs.Common.{ℕ, suc, zero, ◌≡◌, ◌≢◌, ◌+◌, ◌<◌, List, [], ◌∷◌, ◌++◌, refl, sym, ◌∙◌, ap, subst, arith, append_assoc, map}
use Rattle.std.proofs.lemmas.List.{append-nil}
use Rattle.std.specs.Prelude.{slice_get, Option, Some, None, if◌then◌else◌}
use Rattle.asl_run_branches.specs.Branches.{Branch}
use Rattle.asl_run_branches.specs.Trees.{Held, Spot, Family, Node, pushed, below_of, branch_of, branches_of, node_of, nodes_of, ArePlaced}
use Rattle.asl_run_branches.proofs.Reading.{eq-true, neq-false, nsub, nflat, nflat-cons}
use Rattle.asl_trace.specs.Stopped.{is_under, running_line, stopped_lines}
use Rattle.asl_trace.specs.private.Walked.{held_line, spots_lines, lines_at, lines_in, node_line, lines_under}

-- ---- all branches under a frame

spots-append : (s n : ℕ) (xs ys : List Spot) → spots_lines s n (xs ++ ys) ≡ spots_lines s n xs ++ spots_lines s n ys
spots-append s n [] ys = refl
spots-append s n (x ∷ xs) ys = ap (λ (l : List ℕ). held_line s n x.held ++ l) (spots-append s n xs ys) ∙ sym (append_assoc (held_line s n x.held) (spots_lines s n xs) (spots_lines s n ys))

spots-pushed : (s n i : ℕ) (xs : List Spot) → spots_lines s n (map (pushed i) xs) ≡ spots_lines s n xs
spots-pushed s n i [] = refl
spots-pushed s n i (x ∷ xs) = ap (λ (l : List ℕ). held_line s n x.held ++ l) (spots-pushed s n i xs)

below-lines : (s n i : ℕ) (ks : List Family) → spots_lines s n (below_of i ks) ≡ lines_in s n ks
below-lines s n i [] = refl
below-lines s n i (k ∷ ks) =
    ap (λ (l : List ℕ). held_line s n k.head ++ l) (spots-append s n (map (pushed i) k.below) (below_of (i + 1) ks) ∙ (λ j. spots-pushed s n i k.below j ++ below-lines s n (i + 1) ks j))
    ∙ sym (append_assoc (held_line s n k.head) (spots_lines s n k.below) (lines_in s n ks))

-- by the children of the frame
pub frame-lines : (s n : ℕ) (f : Family) (ks : List Family) → f.below ≡ below_of 0 ks → spots_lines s n f.below ≡ lines_in s n ks
frame-lines s n f ks e = ap (λ (ss : List Spot). spots_lines s n ss) e ∙ below-lines s n 0 ks

-- ---- those under a place

spots-under : (s n : ℕ) (ss : List Spot) → lines_under s n [] (map node_of ss) ≡ spots_lines s n ss
spots-under s n [] = refl
spots-under s n (x ∷ xs) = ap (λ (l : List ℕ). held_line s n x.held ++ l) (spots-under s n xs)

-- under the frame's own place
pub under-here : (s n : ℕ) (f : Family) (ks : List Family) → f.below ≡ below_of 0 ks → lines_under s n [] (nodes_of f) ≡ lines_in s n ks
under-here s n f ks e = spots-under s n f.below ∙ frame-lines s n f ks e

under-append : (s n : ℕ) (p : List ℕ) (xs ys : List Node) → lines_under s n p (xs ++ ys) ≡ lines_under s n p xs ++ lines_under s n p ys
under-append s n p [] ys = refl
under-append s n p (x ∷ xs) ys = ap (λ (l : List ℕ). node_line s n p x ++ l) (under-append s n p xs ys) ∙ sym (append_assoc (node_line s n p x) (lines_under s n p xs) (lines_under s n p ys))

node-in : (s n k : ℕ) (p q : List ℕ) (h : Held) → node_line s n (k ∷ p) (record { place = k ∷ q; held = h }) ≡ node_line s n p (record { place = q; held = h })
node-in s n k p q h = rw (eq-true k) refl

node-apart : (s n k m : ℕ) (p q : List ℕ) (h : Held) → m ≢ k → node_line s n (k ∷ p) (record { place = m ∷ q; held = h }) ≡ []
node-apart s n k m p q h d = rw (neq-false k m (λ e. d (sym e))) refl

spots-in : (s n k : ℕ) (p : List ℕ) (ss : List Spot) → lines_under s n (k ∷ p) (map node_of (map (pushed k) ss)) ≡ lines_under s n p (map node_of ss)
spots-in s n k p [] = refl
spots-in s n k p (x ∷ xs) = λ j. node-in s n k p (x.number ∷ x.deeper) x.held j ++ spots-in s n k p xs j

spots-apart : (s n k m : ℕ) (p : List ℕ) (ss : List Spot) → m ≢ k → lines_under s n (k ∷ p) (map node_of (map (pushed m) ss)) ≡ []
spots-apart s n k m p [] d = refl
spots-apart s n k m p (x ∷ xs) d = λ j. node-apart s n k m p (x.number ∷ x.deeper) x.held d j ++ spots-apart s n k m p xs d j

sub-in : (s n k : ℕ) (p : List ℕ) (f : Family) → lines_under s n (k ∷ p) (nsub k f) ≡ lines_under s n p (nodes_of f)
sub-in s n k p f = λ j. node-in s n k p [] f.head j ++ spots-in s n k p f.below j

sub-apart : (s n k m : ℕ) (p : List ℕ) (f : Family) → m ≢ k → lines_under s n (k ∷ p) (nsub m f) ≡ []
sub-apart s n k m p f d = λ j. node-apart s n k m p [] f.head d j ++ spots-apart s n k m p f.below d j

both : (s n i : ℕ) (p : List ℕ) (f : Family) (fs : List Family) (xs ys : List ℕ) → lines_under s n p (nsub i f) ≡ xs → lines_under s n p (nflat (i + 1) fs) ≡ ys → lines_under s n p (nflat i (f ∷ fs)) ≡ xs ++ ys
both s n i p f fs xs ys a b = ap (lines_under s n p) (nflat-cons i f fs) ∙ under-append s n p (nsub i f) (nflat (i + 1) fs) ∙ (λ j. a j ++ b j)

past : (s n k i : ℕ) (p : List ℕ) (fs : List Family) → k < i → lines_under s n (k ∷ p) (nflat i fs) ≡ []
past s n k i p [] l = refl
past s n k i p (f ∷ fs) l = both s n i (k ∷ p) f fs [] [] (sub-apart s n k i p f (λ e. omega arith)) (past s n k (i + 1) p fs (omega arith))

abbrev pub found_lines : ℕ → ℕ → List ℕ → Option Family → List ℕ
found_lines s n p None = []
found_lines s n p (Some f) = lines_under s n p (nodes_of f)

found : (s n k i j : ℕ) (p : List ℕ) (fs : List Family) → k ≡ i + j → lines_under s n (k ∷ p) (nflat i fs) ≡ found_lines s n p (slice_get fs j)
found s n k i j p [] e = refl
found s n k i zero p (f ∷ fs) e =
    let m : k ≡ i = omega arith in
    both s n i (k ∷ p) f fs (lines_under s n p (nodes_of f)) [] (subst (λ z. lines_under s n (k ∷ p) (nsub z f) ≡ lines_under s n p (nodes_of f)) m (sub-in s n k p f)) (past s n k (i + 1) p fs (omega arith))
    ∙ append-nil (lines_under s n p (nodes_of f))
found s n k i (suc j) p (f ∷ fs) e = both s n i (k ∷ p) f fs [] (found_lines s n p (slice_get fs j)) (sub-apart s n k i p f (λ z. omega arith)) (found s n k (i + 1) j p fs (omega arith))

-- under a place that leads on from the child of its first number
pub under-child : (s n k : ℕ) (p : List ℕ) (f : Family) (ks : List Family) → f.below ≡ below_of 0 ks → lines_under s n (k ∷ p) (nodes_of f) ≡ found_lines s n p (slice_get ks k)
under-child s n k p f ks e = ap (λ (ss : List Spot). lines_under s n (k ∷ p) (map node_of ss)) e ∙ found s n k 0 k p ks (omega arith)

-- ---- each branch has the place that it is listed at

spots-placed : (s n : ℕ) (p : List ℕ) (ss : List Spot) → ArePlaced (map node_of ss) → lines_under s n p (map node_of ss) ≡ stopped_lines s n p (map branch_of ss)
spots-placed s n p [] a = refl
spots-placed s n p (x ∷ xs) a = λ j. (if is_under p (x.number ∷ x.deeper) then running_line s n (a.0 j) x.held.current else []) ++ spots-placed s n p xs a.1 j

pub nodes-placed : (s n : ℕ) (p : List ℕ) (f : Family) → ArePlaced (nodes_of f) → lines_under s n p (nodes_of f) ≡ stopped_lines s n p (branches_of f)
nodes-placed s n p f a = λ j. (if is_under p [] then running_line s n (a.0 j) f.head.current else []) ++ spots-placed s n p f.below a.1 j

-- ---- the same behind other lines

pub at-lines : (s n : ℕ) (f : Family) (ks : List Family) (out mid new : List ℕ) → f.below ≡ below_of 0 ks → mid ≡ out ++ held_line s n f.head → new ≡ mid ++ lines_in s n ks → new ≡ out ++ lines_at s n f
at-lines s n f ks out mid new e own rest =
    rest ∙ ap (λ (l : List ℕ). l ++ lines_in s n ks) own ∙ append_assoc out (held_line s n f.head) (lines_in s n ks)
    ∙ ap (λ (l : List ℕ). out ++ (held_line s n f.head ++ l)) (sym (frame-lines s n f ks e))

pub here-lines : (s n : ℕ) (p : List ℕ) (f : Family) (ks : List Family) (out new : List ℕ) → p ≡ [] → f.below ≡ below_of 0 ks → new ≡ out ++ lines_in s n ks → new ≡ out ++ lines_under s n p (nodes_of f)
here-lines s n p f ks out new here e told =
    told ∙ ap (λ (l : List ℕ). out ++ l) (sym (under-here s n f ks e) ∙ ap (λ (q : List ℕ). lines_under s n q (nodes_of f)) (sym here))

child-under : (s n k : ℕ) (p q : List ℕ) (f : Family) (ks : List Family) (o : Option Family) → p ≡ k ∷ q → f.below ≡ below_of 0 ks → o ≡ slice_get ks k → found_lines s n q o ≡ lines_under s n p (nodes_of f)
child-under s n k p q f ks o place e there =
    ap (found_lines s n q) there ∙ sym (under-child s n k q f ks e) ∙ ap (λ (r : List ℕ). lines_under s n r (nodes_of f)) (sym place)

pub child-lines : (s n k : ℕ) (p q : List ℕ) (f c : Family) (ks : List Family) (out new : List ℕ) → p ≡ k ∷ q → f.below ≡ below_of 0 ks → Some c ≡ slice_get ks k → new ≡ out ++ lines_under s n q (nodes_of c) → new ≡ out ++ lines_under s n p (nodes_of f)
child-lines s n k p q f c ks out new place e there told = told ∙ ap (λ (l : List ℕ). out ++ l) (child-under s n k p q f ks (Some c) place e there)

pub no-child-lines : (s n k : ℕ) (p q : List ℕ) (f : Family) (ks : List Family) (out : List ℕ) → p ≡ k ∷ q → f.below ≡ below_of 0 ks → None ≡ slice_get ks k → out ≡ out ++ lines_under s n p (nodes_of f)
no-child-lines s n k p q f ks out place e there = sym (append-nil out) ∙ ap (λ (l : List ℕ). out ++ l) (child-under s n k p q f ks None place e there)

pub root-lines : (s n : ℕ) (p q : List ℕ) (f : Family) (bs : List Branch) (out new : List ℕ) → q ≡ p → branches_of f ≡ bs → ArePlaced (nodes_of f) → new ≡ out ++ lines_under s n q (nodes_of f) → new ≡ out ++ stopped_lines s n p bs
root-lines s n p q f bs out new place branches placed told =
    told ∙ ap (λ (l : List ℕ). out ++ l) (nodes-placed s n q f placed ∙ (λ i. stopped_lines s n (place i) (branches i)))
