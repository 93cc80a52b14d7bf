-- Where a value differs first from the one that is wanted: in a list at the first item, in an object at the first member of the
-- wanted one, else at the first that only the other has; in it at its first difference, and so on.
use Rattle.std.specs.Prelude.{ℕ, ◌+◌, List, [], ◌++◌, if◌then◌else◌, Option, Some, None, option_map, is_some}
use Rattle.asl_json_data.specs.Data.{Data, list, dict, Chain, no_items, item, Pairs, no_members, member}
use Rattle.asl_json.specs.Meaning.{value_at}
use Rattle.asl_json_write.specs.Pointers.{name_part, index_part}
use Rattle.asl_json.specs.View.{json_of}
use Rattle.asl_suite_file.specs.Holding.{is_like}
use Rattle.asl_suite_file.specs.declared.difference.Difference.{Difference}
use Rattle.asl_suite_file.specs.declared.holding.Likeness.{Likeness}

-- at this place, with what stands there in each of the two, if anything does
abbrev pub differs_at : List ℕ → Option Data → Option Data → Difference
differs_at place wanted came = record {
  place = place;
  wanted = option_map json_of wanted;
  came = option_map json_of came;
}

-- at a member that is wanted: the other lacks it, or it differs inside; else where the rest does
abbrev pub at_member : Likeness → List ℕ → Data → (Data → Difference) → Option Data → Difference → Difference
at_member likeness place d inside None rest = differs_at place (Some d) None
at_member likeness place d inside (Some e) rest = if is_like likeness d e then rest else inside e

-- at the first member that only the other has
abbrev pub at_unwanted : List ℕ → Pairs → Pairs → Difference
at_unwanted place ms no_members = differs_at place None None
at_unwanted place ms (member k e ns) =
    if is_some (value_at k ms) then at_unwanted place ms ns
    else differs_at (place ++ name_part k) None (Some e)

-- where two values at this place differ that aren't alike
abbrev mutual
  pub difference : Likeness → List ℕ → Data → Data → Difference
  difference likeness place (list ds) (list es) = in_items likeness place 0 ds es
  difference likeness place (dict ms) (dict ns) =
      in_members likeness place ms ns (at_unwanted place ms ns)
  difference likeness place d e = differs_at place (Some d) (Some e)

  -- of the items from this number on
  pub in_items : Likeness → List ℕ → ℕ → Chain → Chain → Difference
  in_items likeness place i (item d ds) (item e es) =
      if is_like likeness d e then in_items likeness place (i + 1) ds es
      else difference likeness (place ++ index_part i) d e
  in_items likeness place i (item d ds) no_items = differs_at (place ++ index_part i) (Some d) None
  in_items likeness place i no_items (item e es) = differs_at (place ++ index_part i) None (Some e)
  in_items likeness place i no_items no_items = differs_at place None None

  pub in_members : Likeness → List ℕ → Pairs → Pairs → Difference → Difference
  in_members likeness place no_members ns rest = rest
  in_members likeness place (member k d ms) ns rest =
      at_member likeness (place ++ name_part k) d (difference likeness (place ++ name_part k) d)
      (value_at k ns) (in_members likeness place ms ns rest)

-- none where they are alike
abbrev pub first_difference : Likeness → Data → Data → Option Difference
first_difference likeness wanted came =
    if is_like likeness wanted came then None else Some (difference likeness [] wanted came)
