use Rattle.std.proofs.Common.{◌≡◌, take}
use Rattle.std.specs.Prelude.{map}
use Rattle.asl_lsp_features.proofs.spot.places_of.Given as goal

abbrev pub invariant-loop-name : goal.invariant-loop-name
invariant-loop-name l = map (λ p. p.now) l.places.items ≡ map (λ m. m.place) (take l.name-index l.names)
