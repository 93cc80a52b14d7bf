use Rattle.std.proofs.Common.{◌≡◌, ◌++◌, drop}
use Rattle.std.specs.Prelude.{Ok}
use Rattle.asl_json_data.specs.Results.{◌>>=◌}
use Rattle.asl_json.specs.View.{data_of}
use Rattle.asl_intrinsic.specs.Tree.{arguments}
use Rattle.asl_intrinsic.specs.private.View.{trees_of}
use Rattle.asl_intrinsic_functions.specs.Seen.{all_seen}
use Rattle.asl_intrinsic.specs.Calls.{values_of}
use Rattle.asl_intrinsic.proofs.call.+eval.Given as goal

abbrev pub invariant-Arguments::eval-loop-argument : goal.invariant-Arguments::eval-loop-argument
invariant-Arguments::eval-loop-argument l = ((values_of (arguments (trees_of (drop l.argument-index l.argument-items))) (data_of l.input) (data_of l.context)) >>= (λ ds. Ok (all_seen l.values.items ++ ds))) ≡ values_of (arguments (trees_of l.argument-items)) (data_of l.input) (data_of l.context)
