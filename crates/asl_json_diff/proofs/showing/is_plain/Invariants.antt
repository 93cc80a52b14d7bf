use Rattle.std.proofs.Common.{◌≡◌}
use Rattle.std.specs.List.{list_any}
use Rattle.asl_json_diff.specs.Shown.{is_out_of_place}
use Rattle.asl_json_diff.proofs.showing.is_plain.Given as goal

abbrev pub invariant-loop-character : goal.invariant-loop-character
invariant-loop-character l = l.found ≡ list_any is_out_of_place l.yielded
