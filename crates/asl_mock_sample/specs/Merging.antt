-- One value of the shape of two: each member and each item that either has is there.
use Rattle.std.specs.Prelude.{ℕ, nat_lt, nat_le, Bool, true, false, List, [], ◌∷◌, ◌++◌, length, Option, Some, None, if◌then◌else◌, codes}
use Rattle.std.specs.Option.{option_map_or}
use Rattle.asl_json_data.specs.Data.{Data, text, list, dict, Chain, no_items, item, Pairs, no_members, member, chain, pairs}
use Rattle.asl_json_data.specs.Compact.{compact}
use Rattle.asl_json_data.specs.Distinct.{Members, has_key}
use Rattle.asl_json.specs.Same.{bytes_eq}
use Rattle.asl_json.specs.Meaning.{value_at}
use Rattle.asl_json.specs.View.{unchained}

-- stands where nothing is known of a value but that it is there
abbrev pub anything : Data
anything = text (codes "...")

abbrev pub or_anything : Option Data → Data
or_anything (Some d) = d
or_anything None = anything

abbrev pub is_anything : List ℕ → Bool
is_anything t = bytes_eq t (codes "...")

abbrev pub has_none : Pairs → Bool
has_none no_members = true
has_none (member k d ms) = false

-- how much a value tells of a shape: one that stands for anything nothing, an empty object little, one with members the most
abbrev pub weight : Data → ℕ
weight (text t) = if is_anything t then 0 else 2
weight (dict ms) = if has_none ms then 1 else 4
weight (list ds) = 3
weight d = 2

-- the one of two that tells more, the first where neither does
abbrev pub weightier : Data → Data → Data
weightier d e = if nat_lt (weight d) (weight e) then e else d

-- a member behind the others, where none has its key
abbrev pub with_member : Members → List ℕ → Data → Members
with_member ms k d = if has_key k ms then ms else ms ++ (k, d) ∷ []

abbrev pub with_members : Members → Pairs → Members
with_members ms no_members = ms
with_members ms (member k d ns) = with_members (with_member ms k d) ns

abbrev pub first_item : Chain → Option Data
first_item no_items = None
first_item (item e es) = Some e

abbrev pub later_items : Chain → Chain
later_items no_items = no_items
later_items (item e es) = es

abbrev mutual
  pub merged : Data → Data → Data
  merged (dict ms) (dict ns) = dict (pairs (with_members (merged_members [] ms ns) ns))
  merged (list ds) (list es) = list (chain (merged_items [] ds es))
  merged d e = weightier d e

  -- behind other members
  pub merged_members : Members → Pairs → Pairs → Members
  merged_members done no_members ns = done
  merged_members done (member k d ms) ns =
      merged_members (with_member done k (option_map_or (merged d) (value_at k ns) d)) ms ns

  -- behind other items
  pub merged_items : List Data → Chain → Chain → List Data
  merged_items done no_items es = done ++ unchained es
  merged_items done (item d ds) es =
      merged_items (done ++ option_map_or (merged d) (first_item es) d ∷ []) ds (later_items es)

-- how many bytes a sample has at most
unfoldable pub most_bytes : ℕ
most_bytes = 2000

-- the first of two alone where both would be too much
abbrev pub if_short : Data → Data → Data
if_short d e = if nat_le (length (compact e)) most_bytes then e else d

-- a value says no more than that something is there
abbrev pub stands_for_anything : Data → Bool
stands_for_anything (text t) = is_anything t
stands_for_anything d = false

-- what has the shape of both
abbrev pub both : Data → Data → Data
both d e = if_short d (merged d e)
