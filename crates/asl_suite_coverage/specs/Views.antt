-- What callers see of how much is covered.
use Rattle.std.specs.Prelude.{List}
use Rattle.asl_json_data.specs.Data.{Data}
use Rattle.asl_json.specs.View.{data_of}
use Rattle.asl_suite_coverage.specs.declared.coverage.Coverage.{Coverage}
use Rattle.asl_suite_coverage.specs.declared.point.Point.{Point}

-- the points that can be covered
abbrev pub points_of : Coverage → List Point
points_of c = c.points.items

-- the mock file
abbrev pub mocks_of : Coverage → Data
mocks_of c = data_of c.mocks
