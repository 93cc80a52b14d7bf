-- Which text of a definition may read the clock.
use Rattle.std.specs.Prelude.{ℕ, ◌+◌, Bool, List, [], ◌∷◌, ◌++◌, Option, Some, None, option_map, reverse, if◌then◌else◌}
use Rattle.std.specs.List.{flat_map}
use Rattle.std.specs.Fmt.{decimal}
use Rattle.asl_json_data.specs.Data.{Data, null, boolean, number, text, list, dict, Chain, no_items, item, Pairs, no_members, member}
use Rattle.asl_json_write.specs.Pointers.{name_part}
use Rattle.asl_step_reads.specs.Mentions.{text_may_read}
use Rattle.asl_step_reads.specs.Steps.{clock_keys}

-- the names and numbers on the way to a value, the innermost first
abbrev pub Way : Type 0
Way = List (List ℕ)

-- the same, from what has the value under this name or number
abbrev pub further : List ℕ → Option Way → Option Way
further k o = option_map (λ (ks : Way). ks ++ k ∷ []) o

-- the one, or else the other
abbrev pub first_way : Option Way → Option Way → Option Way
first_way None o = o
first_way (Some ks) o = Some ks

-- the way to the first text that passes a test, in document order
abbrev mutual
  pub way_to : (List ℕ → Bool) → Data → Option Way
  way_to p null = None
  way_to p (boolean b) = None
  way_to p (number n) = None
  way_to p (text t) = if p t then Some [] else None
  way_to p (list ds) = way_among p 0 ds
  way_to p (dict ms) = way_in p ms

  pub way_among : (List ℕ → Bool) → ℕ → Chain → Option Way
  way_among p i no_items = None
  way_among p i (item d ds) =
      first_way (further (decimal i) (way_to p d)) (way_among p (i + 1) ds)

  pub way_in : (List ℕ → Bool) → Pairs → Option Way
  way_in p no_members = None
  way_in p (member k d ms) = first_way (further k (way_to p d)) (way_in p ms)

-- as a JSON Pointer (RFC 6901, sections 3 and 4)
abbrev pub pointer_text : Way → List ℕ
pointer_text ks = flat_map name_part (reverse ks)

-- where the first text of a definition stands that may read the moment at which its state was entered
abbrev pub clock_place : Data → Option (List ℕ)
clock_place d = option_map pointer_text (way_to (text_may_read clock_keys) d)
