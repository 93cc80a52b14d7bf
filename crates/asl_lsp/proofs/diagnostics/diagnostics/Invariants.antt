use Rattle.std.proofs.Common.{◌≡◌, take}
use Rattle.std.specs.Prelude.{map}
use Rattle.asl_json.specs.View.{items_of}
use Rattle.asl_lsp.specs.Diagnostics.{diagnostic}
use Rattle.asl_lsp.proofs.diagnostics.diagnostics.Given as goal

abbrev pub invariant-loop-finding : goal.invariant-loop-finding
invariant-loop-finding l = items_of l.items.items ≡ map (diagnostic l.positions.0 l.positions.1) (take l.finding-index l.findings)
