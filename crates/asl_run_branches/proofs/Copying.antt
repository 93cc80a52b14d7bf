-- Copies of trees, of which no event tells.
use Rattle.std.proofs.Common.{ℕ, ◌≡◌, ◌+◌, ◌<◌, ◌≤◌, List, [], ◌∷◌, ◌++◌, refl, sym, ◌∙◌, ap, map, take, length, get_or}
use Rattle.std.proofs.lemmas.List.{map-append, take_more, take_all}
use Rattle.asl_run_branches.specs.Trees.{Held, Spot, Family, pushed, below_of}
use Rattle.asl_run_branches.specs.Bare.{bare_held, bare_spot, bare_family}

pushed-bare : (i : ℕ) (ss : List Spot) → map bare_spot (map (pushed i) ss) ≡ map (pushed i) (map bare_spot ss)
pushed-bare i [] = refl
pushed-bare i (s ∷ ss) = ap (λ (xs : List Spot). bare_spot (pushed i s) ∷ xs) (pushed-bare i ss)

pub below-bare : (i : ℕ) (ks : List Family) → below_of i (map bare_family ks) ≡ map bare_spot (below_of i ks)
below-bare i [] = refl
below-bare i (k ∷ ks) = ap (λ (xs : List Spot). record { number = i; deeper = []; held = bare_held k.head } ∷ xs)
    (ap (λ (xs : List Spot). xs ++ below_of (i + 1) (map bare_family ks)) (sym (pushed-bare i k.below))
    ∙ ap (λ (xs : List Spot). map bare_spot (map (pushed i) k.below) ++ xs) (below-bare (i + 1) ks)
    ∙ sym (map-append bare_spot (map (pushed i) k.below) (below_of (i + 1) ks)))

-- a frame of bare children is bare
pub copied : (f : Family) (h : Held) (ks : List Family) → record { head = h; below = below_of 0 ks } ≡ f → record { head = bare_held h; below = below_of 0 (map bare_family ks) } ≡ bare_family f
copied f h ks e = ap (λ (b : List Spot). record { head = bare_held h; below = b }) (below-bare 0 ks) ∙ ap bare_family e

-- one more bare child
pub bare-more : (ks : List Family) (i : ℕ) (k : Family) → k ≡ get_or ks i k → i < length ks → bare_family k ≡ k → map bare_family (take i ks) ≡ take i ks → map bare_family (take (i + 1) ks) ≡ take (i + 1) ks
bare-more ks i k e l b h =
    let t : take (i + 1) ks ≡ take i ks ++ k ∷ [] = take_more ks i k l ∙ ap (λ (x : Family). take i ks ++ x ∷ []) (sym e) in
    ap (map bare_family) t ∙ map-append bare_family (take i ks) (k ∷ []) ∙ ap (λ (xs : List Family). xs ++ bare_family k ∷ []) h ∙ ap (λ (x : Family). take i ks ++ x ∷ []) b ∙ sym t

-- a frame that knows of no event, with bare children, is bare
pub is-bare : (f : Family) (h : Held) (ks : List Family) (n : ℕ) → record { head = h; below = below_of 0 ks } ≡ f → bare_held h ≡ h → length ks ≤ n → map bare_family (take n ks) ≡ take n ks → bare_family f ≡ f
is-bare f h ks n e b l k =
    let t : take n ks ≡ ks = take_all n ks l in
    let same : map bare_family ks ≡ ks = ap (map bare_family) (sym t) ∙ k ∙ t in
    sym (copied f h ks e) ∙ ap (λ (x : Held). record { head = x; below = below_of 0 (map bare_family ks) }) b ∙ ap (λ (xs : List Family). record { head = h; below = below_of 0 xs }) same ∙ e
