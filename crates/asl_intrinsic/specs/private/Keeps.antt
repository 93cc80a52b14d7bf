-- What a reader keeps of the calls that stand open, and of an argument that has ended.
use Rattle.std.specs.Prelude.{◌≡◌, ℕ, suc, List, [], ◌∷◌, length, min, Option, Some, None, Result, Ok, Err}
use Rattle.asl_intrinsic.specs.Tree.{Argument, arguments, Frame}
use Rattle.asl_intrinsic.specs.private.View.{tree_of, trees_of}
use Rattle.asl_intrinsic.specs.Faults.{first_fault, first_faults}
use Rattle.asl_intrinsic.specs.declared.call.Argument as code
use Rattle.asl_intrinsic.specs.declared.expr.CallFault.{CallFault}
use Rattle.asl_intrinsic.specs.declared.expr.CallFault.TheVariants.{Syntax, Unknown, Depth, Arity, OutOfMemory}
use Rattle.asl_intrinsic.specs.declared.frame.Wrong.{Wrong}
use Rattle.asl_intrinsic.specs.declared.frame.Wrong.TheVariants as wrong
use Rattle.asl_intrinsic.specs.declared.frame.Open.{Open}

-- what is wrong, as the reader of a call is told it
abbrev pub fault_of : Wrong → CallFault
fault_of (wrong.Unknown name) = Unknown name.now
fault_of wrong.Depth = Depth
fault_of wrong.Arity = Arity

abbrev pub fault_in : Option Wrong → Option CallFault
fault_in None = None
fault_in (Some w) = Some (fault_of w)

-- an argument on this level without a fault is kept, and of another its first fault
abbrev pub KeepsOne : ℕ → Result code.Argument Wrong → Argument → Type 0
KeepsOne level (Ok kept) a = (tree_of kept ≡ a) × (first_fault level a ≡ None)
KeepsOne level (Err w) a = first_fault level a ≡ Some (fault_of w)

-- an open call on this level
pub record Keeps (level : ℕ) (o : Open) (f : Frame) : Type 0 where
  pub name : o.name.now ≡ f.0
  pub count : o.count ≡ min (length f.1) 4
  pub wrong : first_faults (suc level) (arguments f.1) ≡ fault_in o.wrong
  pub kept : o.wrong ≡ None → trees_of o.arguments.items ≡ f.1

-- the open calls, the innermost first
abbrev pub KeepsAll : List Open → List Frame → Type 0
KeepsAll [] [] = Unit {0}
KeepsAll [] (f ∷ st) = ⊥
KeepsAll (o ∷ os) [] = ⊥
KeepsAll (o ∷ os) (f ∷ st) = Keeps (suc (length st)) o f × KeepsAll os st

-- the fault is told, unless memory runs out
abbrev pub Tells : Wrong → CallFault → Type 0
Tells w (Syntax at) = ⊥
Tells w (Unknown name) = fault_of w ≡ Unknown name
Tells w Depth = fault_of w ≡ Depth
Tells w Arity = fault_of w ≡ Arity
Tells w OutOfMemory = Unit {0}
