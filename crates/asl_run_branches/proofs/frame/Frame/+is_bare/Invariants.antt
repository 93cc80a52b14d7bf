use Rattle.std.proofs.Common.{◌≡◌, map, take}
use Rattle.asl_run_branches.specs.Bare.{bare_family}
use Rattle.asl_run_branches.proofs.frame.Frame.+is_bare.Given as goal

-- no event was told of the children so far
abbrev pub invariant-loop-child : goal.invariant-loop-child
invariant-loop-child l = map bare_family (take l.child-index l.child-items) ≡ take l.child-index l.child-items
