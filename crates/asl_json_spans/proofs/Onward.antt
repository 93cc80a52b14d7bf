-- Going on from the way to the place before.
use Rattle.std.proofs.Common.{◌≡◌, ℕ, zero, suc, ◌+◌, ◌-◌, ◌<◌, ◌≤◌, List, [], ◌∷◌, ◌++◌, length, get_or, take, refl, sym, ap, subst, ◌∙◌, arith}
use Rattle.std.specs.Borrow.{Bor}
use Rattle.std.proofs.lemmas.List.{map_more, take_all}
use Rattle.std.specs.Prelude.{Option, map}
use Rattle.asl_json_data.specs.Data.{Data}
use Rattle.asl_json_spans.specs.declared.span.Node.{Node}
use Rattle.asl_json_spans.specs.declared.reaching.Reached.{Reached}
use Rattle.asl_json_spans.specs.Standing.{IsOutline, AllFind}
use Rattle.asl_json_spans.specs.private.Marks.{parts_of, behind_first, behind_some, found, first_of}
use Rattle.asl_json_spans.specs.private.Trails.{seen, trail, IsTrail}
use Rattle.asl_json_spans.proofs.Places.{place_found}

-- some values on, and then some more
pub behind_more : (a b : ℕ) (ns : List Node) → behind_some b (behind_some a ns) ≡ behind_some (a + b) ns
behind_more zero b ns = let e : 0 + b ≡ b = omega arith in rw e refl
behind_more (suc a) b ns = let e : suc a + b ≡ suc (a + b) = omega arith in rw e (behind_more a b (behind_first ns))

pub behind_up : (a b : ℕ) (ns rest : List Node) → a ≤ b → rest ≡ behind_some a ns → behind_some (b - a) rest ≡ behind_some b ns
behind_up a b ns rest le e =
    let same : a + (b - a) ≡ b = omega (arith, le) in
    ap (behind_some (b - a)) e ∙ behind_more a (b - a) ns ∙ ap (λ (k : ℕ). behind_some k ns) same

pub trail_is : (ns : List Node) (is : List ℕ) → IsTrail ns (trail ns is)
trail_is ns [] = tt
trail_is ns (i ∷ is) = (refl, trail_is (behind_some i (parts_of ns)) is)

pub way_is : (ns ms : List Node) (is : List ℕ) (old new : List Reached) → old ≡ [] → map seen new ≡ map seen old ++ trail ns is → ns ≡ ms → IsTrail ms (map seen new)
way_is ns ms is old new empty way same = subst (λ (xs : List Node). IsTrail xs (map seen new)) same (subst (IsTrail ns) (sym (way ∙ ap (λ (xs : List Reached). map seen xs ++ trail ns is) empty)) (trail_is ns is))

-- what is found at a place
abbrev pub found_by : List Node → Bor (List ℕ) → Option Node
found_by ns p = first_of (found ns p.now)

pub all_find : (b : List ℕ) (d : Data) (ns : List Node) (ps : List (Bor (List ℕ))) → IsOutline b d ns → AllFind b d (map (λ p. p.now) ps) (map (found_by ns) ps)
all_find b d ns [] h = tt
all_find b d ns (p ∷ ps) h = (place_found b d ns p.now h, all_find b d ns ps h)

pub found_more : (ns ms : List Node) (ps : List (Bor (List ℕ))) (i : ℕ) (p : Bor (List ℕ)) (old new : List (Option Node)) (o : Option Node) (rest : List Node) → i < length ps → old ≡ map (found_by ns) (take i ps) → new ≡ old ++ o ∷ [] → o ≡ first_of rest → rest ≡ found ms (get_or ps i p).now → ms ≡ ns → new ≡ map (found_by ns) (take (i + 1) ps)
found_more ns ms ps i p old new o rest lt so_far more first is same =
    more ∙ ap (λ (os : List (Option Node)). os ++ o ∷ []) so_far
    ∙ ap (λ (x : Option Node). map (found_by ns) (take i ps) ++ x ∷ []) (first ∙ ap first_of is ∙ ap (λ (xs : List Node). first_of (found xs (get_or ps i p).now)) same)
    ∙ sym (map_more (found_by ns) ps i p lt)

pub found_all : (b : List ℕ) (d : Data) (ns : List Node) (ps : List (Bor (List ℕ))) (i : ℕ) (os : List (Option Node)) → length ps ≤ i → os ≡ map (found_by ns) (take i ps) → IsOutline b d ns → AllFind b d (map (λ p. p.now) ps) os
found_all b d ns ps i os end so_far h = subst (AllFind b d (map (λ p. p.now) ps)) (sym (so_far ∙ ap (map (found_by ns)) (take_all i ps end))) (all_find b d ns ps h)

-- the first step of the way before, where it isn't behind the one that is looked for
pub first_on : (ns : List Node) (xs : List Reached) (n : ℕ) (x : Reached) → 1 ≤ length xs → IsTrail ns (map seen xs) → (get_or xs 0 x).number ≤ n → behind_some (n - (get_or xs 0 x).number) (get_or xs 0 x).rest.now ≡ behind_some n (parts_of ns)
first_on ns [] n x some h le = absurd (omega (arith, some))
first_on ns (y ∷ ys) n x some h le = behind_up y.number n (parts_of ns) y.rest.now le h.0
