-- Worlds without their histories.
use Rattle.std.proofs.Common.{ℕ, ◌≡◌, ◌+◌, ◌<◌, ◌≤◌, ◌&&◌, ◌==◌, ◌∷◌, Bool, true, false, List, [], refl, sym, ◌∙◌, ap, arith, map, Option}
use Rattle.std.specs.Prelude.{slice_index, if◌then◌else◌}
use Rattle.asl_history.specs.declared.event.Event.{Event}
use Rattle.asl_run_branches.specs.declared.earliest.Earliest.{Earliest}
use Rattle.asl_run_branches.specs.Branches.{Branch}
use Rattle.asl_run_branches.specs.Trees.{Held, Spot, Family, branch_of, branches_of, node_of, nodes_of, ArePlaced}
use Rattle.asl_run_branches.specs.Bare.{bare_held, bare_spot, bare_family}
use Rattle.asl_run_branches.specs.Earliest.{due_from, helds_of, earliest_of}
use Rattle.asl_run_branches.specs.private.Links.{known, latest, KnowUpTo}
use Rattle.asl_run_branches.proofs.Sameness.{json, error}
use Rattle.asl_run_state.specs.World.{World}
use Rattle.asl_run_state.specs.Bare.{bare, earliest}
use Rattle.asl_run_state.specs.private.Sound.{IsSound}
use Rattle.asl_run_state.specs.declared.outcome.Outcome.{Outcome}
use Rattle.asl_run_state.specs.declared.outcome.Outcome.TheVariants.{Running, Succeeded, Failed, TimedOut}
use Rattle.asl_run_state.specs.contracts.outcome.OutcomePartialEq.TheImpl as outcome_impl
use Rattle.asl_run_state.specs.contracts.outcome.OutcomeEq.TheImpl.Laws as outcome_laws

-- ---- what always holds of a world, of one without its history

known-bare : (q p : List ℕ) (h : Held) → known q p (bare_held h) ≡ 0
known-bare [] [] h = refl
known-bare [] (y ∷ ys) h = refl
known-bare (x ∷ xs) [] h = refl
known-bare (x ∷ xs) (y ∷ ys) h = by (x == y) (known-bare xs ys h)
  where
    by : (c : Bool) → known xs ys (bare_held h) ≡ 0 → (if c then known xs ys (bare_held h) else 0) ≡ 0
    by true e = e
    by false e = refl

latest-bare : (q : List ℕ) (ss : List Spot) → latest q (map node_of (map bare_spot ss)) ≡ 0
latest-bare q [] = refl
latest-bare q (s ∷ ss) = rw (known-bare q (s.number ∷ s.deeper) s.held, latest-bare q ss) refl

unknown-bare : (ss : List Spot) → KnowUpTo 0 (map node_of (map bare_spot ss))
unknown-bare [] = tt
unknown-bare (s ∷ ss) = ((omega arith, omega arith), unknown-bare ss)

placed-bare : (ss : List Spot) → ArePlaced (map node_of ss) → ArePlaced (map node_of (map bare_spot ss))
placed-bare [] h = tt
placed-bare (s ∷ ss) h = (h.0, placed-bare ss h.1)

pub sound-bare : (f g : Family) (counts also : List ℕ) (events none : List Event) (outcome same : Outcome) → IsSound (nodes_of f) counts events outcome → g ≡ bare_family f → also ≡ counts → none ≡ [] → same ≡ outcome → ((n : ℕ) → slice_index counts n ≤ 1000000000) → IsSound (nodes_of g) also none same
sound-bare f g counts also events none outcome same s eg ec en eo few = rw (eg, ec, en, eo) record {
  linked = record {
    told = tt;
    known = ((omega arith, omega arith), unknown-bare f.below);
    links = λ q h. rw (known-bare q [] f.head, latest-bare q f.below) refl;
  };
  placed = (s.placed.0, placed-bare f.below s.placed.1);
  counted = λ n. omega (arith, few n);
  goes = s.goes;
}

-- ---- its branches

branches-spots : (ss : List Spot) → map branch_of (map bare_spot ss) ≡ map branch_of ss
branches-spots [] = refl
branches-spots (s ∷ ss) = ap (λ (bs : List Branch). branch_of s ∷ bs) (branches-spots ss)

pub branches-bare : (f : Family) → branches_of (bare_family f) ≡ branches_of f
branches-bare f = ap (λ (bs : List Branch). record { place = []; current = f.head.current } ∷ bs) (branches-spots f.below)

spots-earliest : (last : ℕ) (ss : List Spot) → ArePlaced (map node_of ss) → map (earliest_of last) (map (λ (s : Spot). s.held) ss) ≡ earliest last (map branch_of ss)
spots-earliest last [] h = refl
spots-earliest last (s ∷ ss) h = λ i. record { place = h.0 i; moment = due_from last s.held.current } ∷ spots-earliest last ss h.1 i

pub earliest-placed : (last : ℕ) (f : Family) → ArePlaced (nodes_of f) → map (earliest_of last) (helds_of f) ≡ earliest last (branches_of f)
earliest-placed last f h = λ i. record { place = h.0 i; moment = due_from last f.head.current } ∷ spots-earliest last f.below h.1 i

-- ---- outcomes

abbrev pub outcome_eq : Outcome → Outcome → Bool
outcome_eq = (outcome_impl.ghosts).eq

-- `==` is true only of one outcome
pub outcome-one : (a b : Outcome) → outcome_eq a b ≡ true → a ≡ b
outcome-one Running Running e = refl
outcome-one (Succeeded x) (Succeeded y) e = ap Succeeded (json x y e)
outcome-one (Failed x) (Failed y) e = ap Failed (error x y e)
outcome-one TimedOut TimedOut e = refl
outcome-one a b e = absurd cc

pub outcome-refl : (a : Outcome) → outcome_eq a a ≡ true
outcome-refl a = outcome_laws.laws-law.refl a
