-- Each frame keeps the place that the root sees it at.
use Rattle.std.proofs.Common.{ℕ, ◌≡◌, ◌+◌, ◌&&◌, Bool, true, false, not, List, [], ◌∷◌, ◌++◌, refl, sym, ◌∙◌, cond, Option}
use Rattle.asl_history.specs.Places.{is_prefix}
use Rattle.asl_step.specs.declared.effect.Children.{Children}
use Rattle.asl_step.specs.declared.effect.Children.TheVariants.{Kept, Removed, Forked as Made}
use Rattle.asl_step.specs.declared.record.Record.{Record}
use Rattle.asl_run_branches.specs.Branches.{same_place}
use Rattle.asl_run_branches.specs.Trees.{Node, ArePlaced}
use Rattle.asl_run_branches.specs.Changes.{newborns, kids_of, litter_of, Change, change, grown, litter, touched, node_after, nodes_after}
use Rattle.asl_run_branches.proofs.Reading.{nflat}
use Rattle.asl_run_branches.proofs.Linking.{same-eq}

newborns-placed : (p : List ℕ) (i : ℕ) (rs : List Record) → ArePlaced (grown p (nflat i (newborns p i rs)))
newborns-placed p i [] = tt
newborns-placed p i (r ∷ rs) = (refl, newborns-placed p (i + 1) rs)

kids-placed : (p : List ℕ) (c : Children) → ArePlaced (grown p (nflat 0 (kids_of p c)))
kids-placed p Kept = tt
kids-placed p Removed = tt
kids-placed p (Made rs) = newborns-placed p 0 rs

append-placed : (xs ys : List Node) → ArePlaced xs → ArePlaced ys → ArePlaced (xs ++ ys)
append-placed [] ys a b = b
append-placed (x ∷ xs) ys a b = (a.0, append-placed xs ys a.1 b)

one-placed : (s k a : Bool) (p : List ℕ) (r : Record) (told : Option ℕ) (children : Children) (n : Node) → same_place p n.place ≡ s → n.held.place ≡ n.place → ArePlaced (cond s (litter p (change r told (litter_of p children)) n.held) (cond k [] (cond a (touched told n ∷ []) (n ∷ []))))
one-placed true k a p r told children n e h = (h ∙ sym (same-eq p n.place e), kids-placed p children)
one-placed false true a p r told children n e h = tt
one-placed false false true p r told children n e h = (h, tt)
one-placed false false false p r told children n e h = (h, tt)

pub placed-after : (p : List ℕ) (r : Record) (told : Option ℕ) (children : Children) (ns : List Node) → ArePlaced ns → ArePlaced (nodes_after p (change r told (litter_of p children)) ns)
placed-after p r told children [] a = tt
placed-after p r told children (n ∷ ns) a =
    let c : Change = change r told (litter_of p children) in
    append-placed (node_after p c n) (nodes_after p c ns) (one-placed (same_place p n.place) (is_prefix p n.place && not c.keeps) (is_prefix n.place p) p r told children n refl a.0) (placed-after p r told children ns a.1)
