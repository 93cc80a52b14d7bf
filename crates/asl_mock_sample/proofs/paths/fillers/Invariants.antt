use Rattle.std.proofs.Common.{◌≡◌}
use Rattle.asl_json.specs.View.{items_of}
use Rattle.asl_mock_sample.specs.Paths.{fillers}
use Rattle.asl_mock_sample.proofs.paths.fillers.Given as goal

abbrev pub invariant-loop : goal.invariant-loop
invariant-loop l = items_of l.values.items ≡ fillers l.counter
