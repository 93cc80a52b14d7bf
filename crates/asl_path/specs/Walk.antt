-- What the steps of a path reach in a value, and a value with another part there.
use Rattle.std.specs.Prelude.{ℕ, zero, suc, List, [], ◌∷◌, Option, Some, None, if◌then◌else◌, option_map, option_and_then}
use Rattle.asl_json_data.specs.Data.{Data, list, dict, Chain, no_items, item, Pairs, no_members, member}
use Rattle.asl_json.specs.Meaning.{value_at}
use Rattle.asl_json.specs.Same.{bytes_eq}
use Rattle.asl_path.specs.declared.step.Step.{Step}
use Rattle.asl_path.specs.declared.step.Step.TheVariants.{Name, Index}

abbrev pub item_at : ℕ → Chain → Option Data
item_at i no_items = None
item_at zero (item d ds) = Some d
item_at (suc i) (item d ds) = item_at i ds

-- the part that one step reaches: a member of an object, an item of a list
abbrev pub child : Data → Step → Option Data
child (dict ms) (Name k) = value_at k ms
child (list ds) (Index i) = item_at i ds
child v s = None

abbrev pub at : Data → List Step → Option Data
at v [] = Some v
at v (s ∷ ss) = option_and_then {T = Data} {U = Data} (λ w. at w ss) (child v s)

-- the member of this name with f of its value, or f of an empty object behind the others
abbrev pub put_member : List ℕ → (Data → Option Data) → Pairs → Option Pairs
put_member k f no_members = option_map (λ w. member k w no_members) (f (dict no_members))
put_member k f (member l d ms) =
    if bytes_eq k l then option_map (λ w. member l w ms) (f d)
    else option_map (λ ns. member l d ns) (put_member k f ms)

abbrev pub put_item : ℕ → (Data → Option Data) → Chain → Option Chain
put_item i f no_items = None
put_item zero f (item d ds) = option_map (λ w. item w ds) (f d)
put_item (suc i) f (item d ds) = option_map (λ es. item d es) (put_item i f ds)

abbrev pub put_child : Data → Step → (Data → Option Data) → Option Data
put_child (dict ms) (Name k) f = option_map dict (put_member k f ms)
put_child (list ds) (Index i) f = option_map list (put_item i f ds)
put_child v s f = None

-- the value with r at these steps
abbrev pub put : Data → List Step → Data → Option Data
put v [] r = Some r
put v (s ∷ ss) r = put_child v s (λ w. put w ss r)
