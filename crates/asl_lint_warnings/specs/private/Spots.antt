-- Where a value stands, as the code has it.
use Rattle.asl_lint_warnings.specs.declared.walk.Spot.{Spot as CodeSpot}
use Rattle.asl_lint_warnings.specs.Warnings.{Spot}
use Rattle.asl_lint_warnings.specs.private.Marks.{is_marked}
use Rattle.asl_lint_warnings.specs.private.Trails.{steps_of}

abbrev pub spot_of : CodeSpot → Spot
spot_of p =
    record {
      place = steps_of p.trail.now;
      reached = is_marked p.standing.now.reached.items;
      ending = is_marked p.standing.now.ending.items;
    }
