use Rattle.std.proofs.Common.{◌≡◌, map, take}
use Rattle.asl_run_branches.specs.Bare.{bare_family}
use Rattle.asl_run_branches.proofs.frame.Frame.+bare_copy.Given as goal

abbrev pub invariant-loop-child : goal.invariant-loop-child
invariant-loop-child l = l.children.items ≡ map bare_family (take l.child-index l.child-items)
