use Rattle.std.proofs.Common.{◌≡◌, take}
use Rattle.std.specs.Prelude.{map}
use Rattle.asl_json.specs.View.{items_of}
use Rattle.asl_lsp_features.specs.Structures.{text_edit}
use Rattle.asl_lsp_features.proofs.renaming.edits.Given as goal

abbrev pub invariant-loop-span : goal.invariant-loop-span
invariant-loop-span l = items_of l.edits.items ≡ map (text_edit l.positions.0 l.positions.1 l.new) (take l.span-index l.spans)
