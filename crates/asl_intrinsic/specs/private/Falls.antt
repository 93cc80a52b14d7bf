-- The arguments of a call are smaller than it.
use Rattle.std.specs.Prelude.{◌≤◌, max, List, [], ◌∷◌}
use Rattle.std.proofs.Common.{arith}
use denote.Param.Weighed.{most}
use Rattle.asl_intrinsic.specs.Tree.{depth, list_size}
use Rattle.asl_intrinsic.specs.private.View.{tree_of, trees_of}
use Rattle.asl_intrinsic.specs.declared.call.Argument.{Argument}
use Rattle.asl_intrinsic.specs.declared.call.Argument.TheVariants.{Constant, Quoted, Path, Call}
use Rattle.asl_intrinsic.specs.declared.call.Arguments.TheDeep.{deep-Argument}

deep_one : (a : Argument) → deep-Argument a ≤ depth (tree_of a)
deep_one (Constant v) = omega arith
deep_one (Quoted t) = omega arith
deep_one (Path p) = omega arith
deep_one (Call n ts) = omega arith

deep_all : (ts : List Argument) → most deep-Argument ts ≤ list_size (trees_of ts)
deep_all [] = omega arith
deep_all (a ∷ ts) = omega (arith, deep_one a, deep_all ts)

pub arguments_fall : (ts : List Argument) → max (most deep-Argument ts) 0 ≤ list_size (trees_of ts)
arguments_fall ts = omega (arith, deep_all ts)
