use Rattle.std.proofs.Common.{◌≡◌, map, take}
use Rattle.asl_json_spans.specs.private.Trails.{seen, IsTrail}
use Rattle.asl_json_spans.proofs.Onward.{found_by}
use Rattle.asl_json_spans.proofs.finding.Outline.find_all.Given as goal

abbrev pub invariant-loop-place : goal.invariant-loop-place
invariant-loop-place l = record {
  all : l.all.items ≡ map (found_by l.self-inside.nodes.items) (take l.place-index l.places);
  trail : IsTrail l.self-inside.nodes.items (map seen l.before.items);
}
