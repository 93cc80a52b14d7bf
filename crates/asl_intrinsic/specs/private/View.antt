-- What a clause sees of a call.
use Rattle.std.specs.Prelude.{List, map}
use Rattle.asl_json.specs.View.{data_of}
use Rattle.asl_intrinsic_functions.specs.Names.{name_of}
use Rattle.asl_intrinsic.specs.Tree as tree
use Rattle.asl_intrinsic.specs.declared.call.Argument.{Argument}
use Rattle.asl_intrinsic.specs.declared.call.Argument.TheVariants.{Constant, Quoted, Path, Call}

abbrev pub tree_of : Argument → tree.Argument
tree_of (Constant v) = tree.constant (data_of v)
tree_of (Quoted t) = tree.quoted t
tree_of (Path p) = tree.path p
tree_of (Call f ts) = tree.call (name_of f) (tree.arguments ts)

abbrev pub trees_of : List Argument → List tree.Argument
trees_of ts = map tree_of ts
