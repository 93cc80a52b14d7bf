-- Whether a value is like the one that is wanted.
use Rattle.std.specs.Prelude.{Bool, true, false, ◌&&◌}
use Rattle.std.specs.Option.{option_map_or}
use Rattle.asl_json_data.specs.Data.{Data, list, dict, Chain, no_items, item, Pairs, no_members, member}
use Rattle.asl_json.specs.Meaning.{same, value_at}
use Rattle.asl_suite_file.specs.declared.holding.Likeness.{Likeness}
use Rattle.asl_suite_file.specs.declared.holding.Likeness.TheVariants.{Same, Holding}

-- the second value holds the first: an object has each of its members, whose value holds that one's; a list has as many items, and
-- each holds the one at its place; any other value means the same
abbrev mutual
  pub is_held : Data → Data → Bool
  is_held (list ds) (list es) = are_held ds es
  is_held (dict ms) (dict ns) = each_is_held ms ns
  is_held d e = same d e

  pub are_held : Chain → Chain → Bool
  are_held no_items no_items = true
  are_held (item d ds) (item e es) = is_held d e && are_held ds es
  are_held ds es = false

  pub each_is_held : Pairs → Pairs → Bool
  each_is_held no_members ns = true
  each_is_held (member k d ms) ns =
      option_map_or (is_held d) (value_at k ns) false && each_is_held ms ns

abbrev pub is_like : Likeness → Data → Data → Bool
is_like Same d e = same d e
is_like Holding d e = is_held d e
