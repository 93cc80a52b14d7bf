use Rattle.std.proofs.Common.{◌≡◌, ◌++◌, take}
use Rattle.std.specs.Prelude.{map}
use Rattle.std.specs.List.{All}
use Rattle.std.specs.Vec.Iter.{into_iter_items}
use Rattle.asl_json_spans.specs.Position.{IsPosition}
use Rattle.asl_lint.specs.Places.{IsAt, ruled}
use Rattle.asl_lint.specs.private.Founds.{spanned}
use Rattle.asl_lint.proofs.placing.positioned.Given as goal

abbrev pub invariant-loop-spanned : goal.invariant-loop-spanned
invariant-loop-spanned l = record {
  here : IsPosition (take l.here.at l.text) l.here.lines l.here.characters;
  at : All (IsAt l.text) l.findings.items;
  same : map ruled l.findings.items ++ map spanned (into_iter_items l.spanned-iterator) ≡ map spanned l.fn.all.items;
}
