-- Where a value stands, as the code has it.
use Rattle.std.specs.HashSet.{contains_text}
use Rattle.asl_def_schema.specs.Claims.{Spot}
use Rattle.asl_def_judge.specs.declared.spot.Spot.{Spot as CodeSpot}

abbrev pub spot_of : CodeSpot → Spot
spot_of p =
    record {
      names = contains_text p.names.now;
      level = p.level;
      ends = p.ends;
      key = p.key.now;
      doubled = p.doubled;
    }
