use Rattle.std.proofs.Common.{◌≡◌, ◌++◌, [], take, drop}
use Rattle.std.specs.Prelude.{map}
use Rattle.asl_json.specs.View.{members_of}
use Rattle.asl_mock.specs.Faults.{overlaps_behind}
use Rattle.asl_lint_mocks.specs.Places.{keys_of, numbers_of}
use Rattle.asl_lint_mocks.specs.private.Tops.{IsTop}
use Rattle.asl_lint_mocks.proofs.keys.overlaps.Given as goal

abbrev pub invariant-loop-i : goal.invariant-loop-i
invariant-loop-i l = record {
  top : IsTop l.top (members_of (take l.i l.answers));
  told : map (keys_of (members_of l.answers)) (numbers_of l.all.items) ++ overlaps_behind (members_of (take l.i l.answers)) (members_of (drop l.i l.answers)) ≡ overlaps_behind [] (members_of l.answers);
}
