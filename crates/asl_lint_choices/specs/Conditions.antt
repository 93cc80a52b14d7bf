-- What a rule asks: its members that say when it holds. (Amazon States Language, "Choice State".)
use Rattle.std.specs.Prelude.{ℕ, List, [], ◌∷◌, Bool, ◌||◌, codes, map, if◌then◌else◌}
use Rattle.asl_json_data.specs.Data.{Data, pairs}
use Rattle.asl_json_data.specs.Distinct.{Members}
use Rattle.asl_json.specs.Access.{member_list}
use Rattle.asl_json.specs.Same.{bytes_eq, equal_members}

-- a member with this key doesn't say when the rule holds
abbrev pub is_aside : List ℕ → Bool
is_aside k = bytes_eq k (codes "Next") || bytes_eq k (codes "Comment")

-- these members without those
abbrev pub without_asides : Members → Members
without_asides [] = []
without_asides (m ∷ ms) = if is_aside m.0 then without_asides ms else m ∷ without_asides ms

-- what a rule asks; any other value than an object asks nothing
abbrev pub condition : Data → Members
condition rule = without_asides (member_list rule)

abbrev pub all_conditions : List Data → List Members
all_conditions rules = map condition rules

-- the same members in the same order, spelling included
abbrev pub is_same : Members → Members → Bool
is_same a b = equal_members (pairs a) (pairs b)
