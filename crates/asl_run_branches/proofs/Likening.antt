-- Trees of the same branches.
use Rattle.std.proofs.Common.{ℕ, ◌≡◌, ◌+◌, ◌<◌, List, [], ◌∷◌, ◌++◌, refl, sym, ◌∙◌, ap, arith, map, take, length, get_or}
use Rattle.std.proofs.lemmas.List.{append_assoc, take_more, take_all, length-take-le}
use Rattle.asl_step.specs.declared.record.Record.{Record}
use Rattle.asl_run_branches.specs.Branches.{Branch}
use Rattle.asl_run_branches.specs.Trees.{Held, Spot, Family, pushed, below_of, branch_of, branches_of}
use Rattle.asl_run_branches.proofs.Reading.{sub, flat, flat-cons}

flat-append : (i : ℕ) (xs ys : List Family) → flat i (xs ++ ys) ≡ flat i xs ++ flat (i + length xs) ys
flat-append i [] ys = let e : i + 0 ≡ i = omega arith in ap (λ n. flat n ys) (sym e)
flat-append i (x ∷ xs) ys =
    let e : i + 1 + length xs ≡ i + length (x ∷ xs) = omega arith in
    flat-cons i x (xs ++ ys) ∙ ap (λ bs. sub i x ++ bs) (flat-append (i + 1) xs ys ∙ ap (λ n. flat (i + 1) xs ++ flat n ys) e)
    ∙ sym (append_assoc (sub i x) (flat (i + 1) xs) (flat (i + length (x ∷ xs)) ys))
    ∙ ap (λ bs. bs ++ flat (i + length (x ∷ xs)) ys) (sym (flat-cons i x xs))

abbrev moved : ℕ → Branch → Branch
moved i b = record { place = i ∷ b.place; current = b.current }

spots-moved : (i : ℕ) (ss : List Spot) → map branch_of (map (pushed i) ss) ≡ map (moved i) (map branch_of ss)
spots-moved i [] = refl
spots-moved i (s ∷ ss) = ap (λ (bs : List Branch). branch_of (pushed i s) ∷ bs) (spots-moved i ss)

sub-moved : (i : ℕ) (k : Family) → sub i k ≡ map (moved i) (branches_of k)
sub-moved i k = ap (λ (bs : List Branch). record { place = i ∷ []; current = k.head.current } ∷ bs) (spots-moved i k.below)

sub-alike : (i : ℕ) (k m : Family) → branches_of k ≡ branches_of m → sub i k ≡ sub i m
sub-alike i k m e = sub-moved i k ∙ ap (map (moved i)) e ∙ sym (sub-moved i m)

one-flat : (i : ℕ) (k : Family) → flat i (k ∷ []) ≡ sub i k ++ []
one-flat i k = flat-cons i k []

-- one more child of each
pub alike-more : (ks ms : List Family) (i : ℕ) (k m : Family) → k ≡ get_or ks i k → m ≡ get_or ms i m → i < length ks → i < length ms → branches_of k ≡ branches_of m → flat 0 (take i ks) ≡ flat 0 (take i ms) → flat 0 (take (i + 1) ks) ≡ flat 0 (take (i + 1) ms)
alike-more ks ms i k m ek em lk lm e h =
    let tk : take (i + 1) ks ≡ take i ks ++ k ∷ [] = take_more ks i k lk ∙ ap (λ (x : Family). take i ks ++ x ∷ []) (sym ek) in
    let tm : take (i + 1) ms ≡ take i ms ++ m ∷ [] = take_more ms i m lm ∙ ap (λ (x : Family). take i ms ++ x ∷ []) (sym em) in
    let nk : 0 + length (take i ks) ≡ i = omega (arith, length-take-le i ks (omega arith)) in
    let nm : 0 + length (take i ms) ≡ i = omega (arith, length-take-le i ms (omega arith)) in
    ap (flat 0) tk ∙ flat-append 0 (take i ks) (k ∷ []) ∙ ap (λ n. flat 0 (take i ks) ++ flat n (k ∷ [])) nk ∙ ap (λ bs. bs ++ flat i (k ∷ [])) h
    ∙ ap (λ bs. flat 0 (take i ms) ++ bs) (one-flat i k ∙ ap (λ bs. bs ++ []) (sub-alike i k m e) ∙ sym (one-flat i m))
    ∙ sym (ap (flat 0) tm ∙ flat-append 0 (take i ms) (m ∷ []) ∙ ap (λ n. flat 0 (take i ms) ++ flat n (m ∷ [])) nm)

pub alike-all : (f g : Family) (h k : Held) (ks ms : List Family) (n : ℕ) → record { head = h; below = below_of 0 ks } ≡ f → record { head = k; below = below_of 0 ms } ≡ g → h.current ≡ k.current → length ks ≡ n → length ms ≡ n → flat 0 (take n ks) ≡ flat 0 (take n ms) → branches_of f ≡ branches_of g
alike-all f g h k ks ms n ef eg r lk lm e =
    let tk : take n ks ≡ ks = take_all n ks (omega arith) in
    let tm : take n ms ≡ ms = take_all n ms (omega arith) in
    let s : flat 0 ks ≡ flat 0 ms = ap (flat 0) (sym tk) ∙ e ∙ ap (flat 0) tm in
    ap branches_of (sym ef) ∙ ap (λ (x : Record). record { place = []; current = x } ∷ flat 0 ks) r ∙ ap (λ bs. record { place = []; current = k.current } ∷ bs) s ∙ ap branches_of eg
