use Rattle.std.proofs.Common.{◌≡◌, take}
use Rattle.std.specs.Prelude.{map}
use Rattle.std.specs.List.{All}
use Rattle.asl_json.specs.View.{data_of}
use Rattle.asl_json_spans.specs.Position.{IsPosition}
use Rattle.asl_json_spans.specs.Standing.{IsOutline}
use Rattle.asl_suite_coverage.specs.Sites.{IsLined, point_of}
use Rattle.asl_suite_coverage.proofs.siting.sited_on.Given as goal

-- those so far stand where they do, and the position is one of the text
abbrev pub invariant-loop-point : goal.invariant-loop-point
invariant-loop-point l = record {
  here : IsPosition (take l.here.at l.text) l.here.lines l.here.characters;
  points : map point_of l.all.items ≡ map (λ p. p.now) (take l.point-index l.points);
  lines : IsOutline l.text (data_of l.value) l.outline → All (λ s. IsLined l.text (data_of l.value) s.line) l.all.items;
}
