use Rattle.std.proofs.Common.{◌≡◌, drop}
use Rattle.asl_lsp_features.specs.Renaming.{is_taken}
use Rattle.asl_lsp_features.proofs.renaming.is_taken.Given as goal

abbrev pub invariant-loop-spot : goal.invariant-loop-spot
invariant-loop-spot l = is_taken l.name (drop l.spot-index l.spots) ≡ is_taken l.name l.spots
