use Rattle.std.proofs.Common.{◌≡◌, drop}
use Rattle.asl_lsp_features.specs.Spots.{at_offset}
use Rattle.asl_lsp_features.proofs.spot.at_offset.Given as goal

abbrev pub invariant-loop-spot : goal.invariant-loop-spot
invariant-loop-spot l = at_offset l.offset (drop l.spot-index l.spots) ≡ at_offset l.offset l.spots
