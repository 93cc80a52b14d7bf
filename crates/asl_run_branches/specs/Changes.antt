-- What becomes of a tree when something happens at a place.
use Rattle.std.specs.Prelude.{ℕ, Bool, not, ◌&&◌, ◌+◌, List, [], ◌∷◌, ◌++◌, map, if◌then◌else◌, Option, Some, None}
use Rattle.std.specs.List.{flat_map}
use Rattle.asl_history.specs.Places.{is_prefix}
use Rattle.asl_step.specs.Bounds.{are_kept}
use Rattle.asl_step.specs.declared.effect.Children.{Children}
use Rattle.asl_step.specs.declared.effect.Children.TheVariants.{Kept, Removed, Forked as Made}
use Rattle.asl_step.specs.declared.record.Record.{Record}
use Rattle.asl_run_branches.specs.Branches.{same_place}
use Rattle.asl_run_branches.specs.Trees.{Held, Family, Node, below_of, node_of}

-- the new children at p, numbered from i: no event is told of them yet
abbrev pub newborns : List ℕ → ℕ → List Record → List Family
newborns p i [] = []
newborns p i (r ∷ rs) =
    record { head = record { place = p ++ i ∷ []; current = r; at = 0; under = 0 }; below = [] }
    ∷ newborns p (i + 1) rs

-- the children that a frame gets, if it doesn't keep those that it has
pub record Litter : Type 0 where
  pub keeps : Bool
  pub kids : List Family

abbrev pub kids_of : List ℕ → Children → List Family
kids_of p Kept = []
kids_of p Removed = []
kids_of p (Made rs) = newborns p 0 rs

abbrev pub litter_of : List ℕ → Children → Litter
litter_of p c = record { keeps = are_kept c; kids = kids_of p c }

-- what happens: what the branch does from now on, the id of the latest event that is told of it, if
-- any is, whether the branches
-- under it stay, and its new children, as it sees them
pub record Change : Type 0 where
  pub after : Record
  pub told : Option ℕ
  pub keeps : Bool
  pub made : List Node

abbrev pub change : Record → Option ℕ → Litter → Change
change after told l =
    record { after = after; told = told; keeps = l.keeps; made = map node_of (below_of 0 l.kids) }

-- the latest event, where one is told
abbrev pub marked : Option ℕ → ℕ → ℕ
marked None before = before
marked (Some id) before = id

-- these, as the root sees them
abbrev pub grown : List ℕ → List Node → List Node
grown p ns = map (λ n. record { place = p ++ n.place; held = n.held }) ns

-- the branch that steps, and its new children
abbrev pub litter : List ℕ → Change → Held → List Node
litter p c h =
    record {
      place = p;
      held = record {
        place = h.place;
        current = c.after;
        at = marked c.told h.at;
        under = marked c.told
            h.under;
      };
    } ∷ grown p c.made

-- an event may be told under it
abbrev pub touched : Option ℕ → Node → Node
touched told n =
    record {
      place = n.place;
      held = record n.held { under = marked told n.held.under };
    }

abbrev pub node_after : List ℕ → Change → Node → List Node
node_after p c n =
    if same_place p n.place then litter p c n.held
    else (if is_prefix p n.place && not c.keeps then []
    else (if is_prefix n.place p then touched c.told n ∷ [] else n ∷ []))

abbrev pub nodes_after : List ℕ → Change → List Node → List Node
nodes_after p c ns = flat_map (node_after p c) ns
