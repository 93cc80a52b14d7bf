-- The parts of a list or an object with the byte that closes it, by names.
use Rattle.std.specs.Prelude.{ℕ, List}
use Rattle.asl_json_data.specs.Data.{Chain, Pairs}
use Rattle.asl_json_data.specs.Parts.{MoreParts, Parts}
use Rattle.asl_json_data.specs.Grammar.{AreSpaces, close_bracket, close_brace, item_parts, member_parts}

-- the items of a list with its closing bracket
abbrev pub SpellsItems : Chain → List ℕ → Type 0
SpellsItems ds = Parts AreSpaces close_bracket (item_parts ds)

-- the items behind the first one
abbrev pub SpellsMoreItems : Chain → List ℕ → Type 0
SpellsMoreItems ds = MoreParts close_bracket (item_parts ds)

-- the members of an object with its closing brace
abbrev pub SpellsMembers : Pairs → List ℕ → Type 0
SpellsMembers ms = Parts AreSpaces close_brace (member_parts ms)

-- the members behind the first one
abbrev pub SpellsMore : Pairs → List ℕ → Type 0
SpellsMore ms = MoreParts close_brace (member_parts ms)
