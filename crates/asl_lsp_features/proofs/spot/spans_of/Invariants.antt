use Rattle.std.proofs.Common.{◌≡◌, ◌++◌, drop}
use Rattle.asl_lsp_features.specs.Spots.{spans_of}
use Rattle.asl_lsp_features.proofs.spot.spans_of.Given as goal

-- those so far and those of what is left are all
abbrev pub invariant-loop-spot : goal.invariant-loop-spot
invariant-loop-spot l = l.spans.items ++ spans_of l.sought l.named (drop l.spot-index l.spots) ≡ spans_of l.sought l.named l.spots
