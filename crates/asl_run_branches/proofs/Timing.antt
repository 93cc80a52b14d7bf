-- The branches of a tree with their earliest moments, in a list.
use Rattle.std.proofs.Common.{ℕ, ◌≡◌, ◌+◌, ◌<◌, ◌≤◌, List, [], ◌∷◌, ◌++◌, refl, sym, ◌∙◌, ap, map, drop, length, get_or}
use Rattle.std.specs.List.{flat_map}
use Rattle.std.proofs.lemmas.List.{map-append, append_assoc, append-nil, drop_more, drop_all}
use Rattle.asl_run_branches.specs.Trees.{Held, Spot, Family, pushed, below_of}
use Rattle.asl_run_branches.specs.Earliest.{due_from, helds_of, earliest_of}
use Rattle.asl_run_branches.specs.declared.earliest.Earliest.{Earliest}

abbrev pub entries : ℕ → Family → List Earliest
entries last f = map (earliest_of last) (helds_of f)

abbrev spot_entry : ℕ → Spot → Earliest
spot_entry last s = earliest_of last s.held

pushed-entries : (last i : ℕ) (ss : List Spot) → map (earliest_of last) (map (λ (s : Spot). s.held) (map (pushed i) ss)) ≡ map (earliest_of last) (map (λ (s : Spot). s.held) ss)
pushed-entries last i [] = refl
pushed-entries last i (s ∷ ss) = ap (λ (xs : List Earliest). earliest_of last s.held ∷ xs) (pushed-entries last i ss)

pub below-entries : (last i : ℕ) (ks : List Family) → map (earliest_of last) (map (λ (s : Spot). s.held) (below_of i ks)) ≡ flat_map (entries last) ks
below-entries last i [] = refl
below-entries last i (k ∷ ks) = ap (λ (xs : List Earliest). earliest_of last k.head ∷ xs)
    (ap (map (earliest_of last)) (map-append (λ (s : Spot). s.held) (map (pushed i) k.below) (below_of (i + 1) ks))
    ∙ map-append (earliest_of last) (map (λ (s : Spot). s.held) (map (pushed i) k.below)) (map (λ (s : Spot). s.held) (below_of (i + 1) ks))
    ∙ ap (λ (xs : List Earliest). xs ++ map (earliest_of last) (map (λ (s : Spot). s.held) (below_of (i + 1) ks))) (pushed-entries last i k.below)
    ∙ ap (λ (xs : List Earliest). map (earliest_of last) (map (λ (s : Spot). s.held) k.below) ++ xs) (below-entries last (i + 1) ks))

pub all-entries : (last : ℕ) (f : Family) (h : Held) (ks : List Family) → record { head = h; below = below_of 0 ks } ≡ f → map (earliest_of last) (helds_of f) ≡ earliest_of last h ∷ flat_map (entries last) ks
all-entries last f h ks e = ap (λ (x : Family). map (earliest_of last) (helds_of x)) (sym e) ∙ ap (λ (xs : List Earliest). earliest_of last h ∷ xs) (below-entries last 0 ks)

-- the branch itself, and then those of its children
pub entries-begun : (last : ℕ) (f : Family) (h : Held) (ks items : List Family) (old out : List Earliest) (p : List ℕ) (moment : ℕ) → record { head = h; below = below_of 0 ks } ≡ f → items ≡ ks → p ≡ h.place → moment ≡ due_from last h.current → out ≡ old ++ record { place = p; moment = moment } ∷ [] → out ++ flat_map (entries last) items ≡ old ++ map (earliest_of last) (helds_of f)
entries-begun last f h ks items old out p moment e ei ep em eo =
    ap (λ (xs : List Earliest). xs ++ flat_map (entries last) items) eo
    ∙ append_assoc old (record { place = p; moment = moment } ∷ []) (flat_map (entries last) items)
    ∙ ap (λ (xs : List Earliest). old ++ xs) (rw (ep, em, ei) (sym (all-entries last f h ks e)))

pub entries-more : (last i : ℕ) (items : List Family) (k : Family) (all old out : List Earliest) → k ≡ get_or items i k → i < length items → out ≡ old ++ entries last k → old ++ flat_map (entries last) (drop i items) ≡ all → out ++ flat_map (entries last) (drop (i + 1) items) ≡ all
entries-more last i items k all old out ek l eo h =
    let d : drop i items ≡ k ∷ drop (i + 1) items = drop_more items i k l ∙ ap (λ (x : Family). x ∷ drop (i + 1) items) (sym ek) in
    ap (λ (xs : List Earliest). xs ++ flat_map (entries last) (drop (i + 1) items)) eo
    ∙ append_assoc old (entries last k) (flat_map (entries last) (drop (i + 1) items))
    ∙ ap (λ (xs : List Family). old ++ flat_map (entries last) xs) (sym d) ∙ h

pub entries-done : (last i : ℕ) (items : List Family) (all out : List Earliest) → length items ≤ i → out ++ flat_map (entries last) (drop i items) ≡ all → out ≡ all
entries-done last i items all out l h =
    sym (append-nil out) ∙ ap (λ (xs : List Family). out ++ flat_map (entries last) xs) (sym (drop_all i items l)) ∙ h
