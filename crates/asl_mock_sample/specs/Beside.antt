-- What is wanted of a value beside the part that a path names.
use Rattle.std.specs.Prelude.{ℕ, Bool, false, List, [], Option, Some, None, if◌then◌else◌, codes}
use Rattle.asl_json_data.specs.Data.{Data, dict, Pairs, no_members, member, pairs}
use Rattle.asl_json_data.specs.Distinct.{Members}
use Rattle.asl_json.specs.Same.{bytes_eq}
use Rattle.asl_mock_sample.specs.Merging.{anything, with_member}
use Rattle.asl_mock_sample.specs.Paths.{stripped}

abbrev pub is_called : Option (List ℕ) → List ℕ → Bool
is_called (Some name) k = bytes_eq name k
is_called None k = false

-- a path of one name names the member with this key
abbrev pub is_at : List ℕ → List ℕ → Bool
is_at path k = is_called (stripped (codes "$.") path) k

-- members behind others, without the one that the path names
abbrev pub with_others : List ℕ → Members → Pairs → Members
with_others path ms no_members = ms
with_others path ms (member k d ns) =
    with_others path (if is_at path k then ms else with_member ms k d) ns

abbrev pub beside_part : List ℕ → Data → Data
beside_part path (dict ms) = dict (pairs (with_others path [] ms))
beside_part path d = d

-- beside the whole there is nothing
abbrev pub beside : List ℕ → Data → Data
beside path d = if bytes_eq path (codes "$") then anything else beside_part path d
