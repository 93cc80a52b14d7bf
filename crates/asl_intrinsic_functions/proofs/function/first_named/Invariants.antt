use Rattle.std.proofs.Common.{◌≡◌, drop}
use Rattle.asl_intrinsic_functions.specs.Names.{first_named}
use Rattle.asl_intrinsic_functions.proofs.function.first_named.Given as goal

abbrev pub invariant-loop-function : goal.invariant-loop-function
invariant-loop-function l = first_named l.name (drop l.function-index l.functions) ≡ first_named l.name l.functions
