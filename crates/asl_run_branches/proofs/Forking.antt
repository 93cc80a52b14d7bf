-- The Map of which the branch at a place is an iteration, down a tree.
use Rattle.std.proofs.Common.{ℕ, ◌≡◌, List, [], ◌∷◌, refl, sym, ◌∙◌, ap, arith, Some, None, map}
use Rattle.std.specs.Prelude.{slice_get}
use Rattle.std.specs.declared.option.Option.{Option}
use Rattle.asl_history.specs.Places.{is_child}
use Rattle.asl_run_branches.specs.Branches.{map_in, map_of, first_of, forker_at}
use Rattle.asl_run_branches.specs.Trees.{Held, Spot, Family, branch_of, branches_of}
use Rattle.asl_run_branches.proofs.Reading.{neq-false, eq-true, flat, fam, at, head_of, first-head, IsInChild, currents_in, in-child}

parent-in : (n : ℕ) (ns : List ℕ) → IsInChild (λ q. is_child q (n ∷ ns)) n (λ q. is_child q ns)
parent-in n ns = record {
  here = λ q. rw (eq-true n) refl;
  other = λ m d q. rw (neq-false m n d) refl;
}

abbrev pub forker_in : List ℕ → Option Family → Option (List ℕ)
forker_in p None = None
forker_in p (Some k) = forker_at p (branches_of k)

forker_in-head : (ns : List ℕ) (o : Option Family) → map_of (head_of (currents_in (λ q. is_child q ns) o)) ≡ forker_in ns o
forker_in-head ns None = refl
forker_in-head ns (Some k) = ap map_of (sym (first-head (at (λ q. is_child q ns) (branches_of k))))

forker-below : (h : Held) (n m : ℕ) (ns : List ℕ) (ks : List Family) → forker_at (n ∷ m ∷ ns) (branches_of (fam h ks)) ≡ forker_in (m ∷ ns) (slice_get ks n)
forker-below h n m ns ks =
    ap map_of (first-head (at (λ q. is_child q (n ∷ m ∷ ns)) (flat 0 ks)) ∙ ap head_of (in-child (λ q. is_child q (n ∷ m ∷ ns)) (λ q. is_child q (m ∷ ns)) n 0 n ks (parent-in n (m ∷ ns)) (omega arith)))
    ∙ forker_in-head (m ∷ ns) (slice_get ks n)

spots-none : (ss : List Spot) → at (λ q. is_child q []) (map branch_of ss) ≡ []
spots-none [] = refl
spots-none (s ∷ ss) = spots-none ss

pub forker-root : (self : Family) (p : List ℕ) → p ≡ [] → forker_at p (branches_of self) ≡ None
forker-root self p e = ap (λ (z : List ℕ). forker_at z (branches_of self)) e ∙ ap (λ bs. map_of (first_of bs)) (spots-none self.below)

pub forker-here : (self : Family) (h : Held) (ks : List Family) (p : List ℕ) (n : ℕ) (ns : List ℕ) → fam h ks ≡ self → p ≡ n ∷ ns → ns ≡ [] → forker_at p (branches_of self) ≡ map_in h.current
forker-here self h ks p n ns v e d = ap (λ (z : List ℕ). forker_at z (branches_of self)) (e ∙ ap (λ (z : List ℕ). n ∷ z) d) ∙ ap (λ (z : Family). forker_at (n ∷ []) (branches_of z)) (sym v)

pub forker-by : (self : Family) (h : Held) (ks : List Family) (p : List ℕ) (n : ℕ) (ns : List ℕ) (o : Option Family) → fam h ks ≡ self → p ≡ n ∷ ns → (ns ≡ [] → ⊥) → slice_get ks n ≡ o → forker_at p (branches_of self) ≡ forker_in ns o
forker-by self h ks p n [] o v e d g = absurd (d refl)
forker-by self h ks p n (m ∷ ns) o v e d g = ap (λ (z : List ℕ). forker_at z (branches_of self)) e ∙ ap (λ (z : Family). forker_at (n ∷ m ∷ ns) (branches_of z)) (sym v) ∙ forker-below h n m ns ks ∙ ap (forker_in (m ∷ ns)) g
