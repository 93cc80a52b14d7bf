-- The arguments of a call with its closing bracket, by names.
use Rattle.std.specs.Prelude.{ℕ, List}
use Rattle.asl_json_data.specs.Parts.{MoreParts, Parts}
use Rattle.asl_intrinsic.specs.Tree.{Arguments}
use Rattle.asl_intrinsic.specs.Grammar.{AreSpaces, close_bracket, argument_parts}

-- the arguments with the closing bracket
abbrev pub SpellsArguments : Arguments → List ℕ → Type 0
SpellsArguments ts = Parts AreSpaces close_bracket (argument_parts ts)

-- those behind the first one
abbrev pub SpellsMore : Arguments → List ℕ → Type 0
SpellsMore ts = MoreParts close_bracket (argument_parts ts)
