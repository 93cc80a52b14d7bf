use Rattle.std.proofs.Common.{◌≡◌, take}
use Rattle.std.specs.Prelude.{map}
use Rattle.asl_json.specs.View.{items_of}
use Rattle.asl_lsp_features.specs.Structures.{location}
use Rattle.asl_lsp_features.proofs.locating.each_location.Given as goal

abbrev pub invariant-loop-span : goal.invariant-loop-span
invariant-loop-span l = items_of l.items.items ≡ map (location l.positions.0 l.positions.1 l.uri) (take l.span-index l.spans)
