-- The branches of a tree of frames, one after another.
use Rattle.std.proofs.Common.{ℕ, Result, Ok, Err, OnOk, append_assoc, ◌≡◌, ◌+◌, List, [], ◌∷◌, ◌++◌, map, refl, ◌∙◌, ap}
use Rattle.std.specs.List.{flat_map}
use Rattle.std.proofs.lemmas.List.{map-append}
use Rattle.asl_run_branches.specs.Trees.{Spot, Family, pushed, below_of, branch_of, node_of, ArePlaced}
use Rattle.asl_session.specs.Sessions.{Session}
use Rattle.asl_step.specs.declared.record.Record.{Record}
use Rattle.asl_session_repl.specs.Views.{branch_line, helds_of, held_lines}

-- a branch holds the same wherever it is seen from
held-pushed : (i : ℕ) (ss : List Spot) → map (λ s. s.held) (map (pushed i) ss) ≡ map (λ s. s.held) ss
held-pushed i [] = refl
held-pushed i (s ∷ ss) = ap (λ hs. s.held ∷ hs) (held-pushed i ss)

-- under a frame are the branches of its children, one child after another
pub helds-below : (i : ℕ) (ks : List Family) → map (λ s. s.held) (below_of i ks) ≡ flat_map helds_of ks
helds-below i [] = refl
helds-below i (k ∷ ks) = ap (λ hs. k.head ∷ hs) (map-append (λ s. s.held) (map (pushed i) k.below) (below_of (i + 1) ks) ∙ rw (held-pushed i k.below, helds-below (i + 1) ks) refl)

-- the lines by what frames hold are those by the branches, where each frame has its place
pub lines-spots : (s : Session) (ss : List Spot) → ArePlaced (map node_of ss) → held_lines s (map (λ x. x.held) ss) ≡ flat_map (λ b. branch_line s b.place b.current) (map branch_of ss)
lines-spots s [] h = refl
lines-spots s (x ∷ ss) h = rw (h.0, lines-spots s ss h.1) refl

pub lines-family : (s : Session) (f : Family) → f.head.place ≡ [] → ArePlaced (map node_of f.below) → held_lines s (helds_of f) ≡ branch_line s [] f.head.current ++ flat_map (λ b. branch_line s b.place b.current) (map branch_of f.below)
lines-family s f e h = rw (e, lines-spots s f.below h) refl

-- the lines of a frame are its own and those of its children
pub lines-frame : (s : Session) (f : Family) (ks : List Family) → f.below ≡ below_of 0 ks → branch_line s f.head.place f.head.current ++ held_lines s (flat_map helds_of ks) ≡ held_lines s (helds_of f)
lines-frame s f ks e = rw (e, helds-below 0 ks) refl

pub frame-told : {E : Type 0} (r : Result Unit E) (old mid new place : List ℕ) (current : Record) (s : Session) (f : Family) (ks : List Family) → place ≡ f.head.place → current ≡ f.head.current → f.below ≡ below_of 0 ks
    → mid ≡ old ++ branch_line s place current → OnOk r (new ≡ mid ++ held_lines s (flat_map helds_of ks)) → OnOk r (new ≡ old ++ held_lines s (helds_of f))
frame-told (Err e) old mid new place current s f ks p c b one two = two
frame-told (Ok x) old mid new place current s f ks p c b one two = two ∙ ap (λ (x : List ℕ). x ++ held_lines s (flat_map helds_of ks)) one ∙ append_assoc old (branch_line s place current) (held_lines s (flat_map helds_of ks)) ∙ ap (λ (x : List ℕ). old ++ x) (rw (p, c) (lines-frame s f ks b))
