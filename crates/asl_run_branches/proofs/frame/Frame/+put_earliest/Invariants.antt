use Rattle.std.proofs.Common.{◌≡◌, ◌++◌, drop, map}
use Rattle.std.specs.List.{flat_map}
use Rattle.asl_run_branches.specs.Earliest.{earliest_of, helds_of}
use Rattle.asl_run_branches.proofs.Timing.{entries}
use Rattle.asl_run_branches.proofs.frame.Frame.+put_earliest.Given as goal

-- those so far and those of the children that are left are all
abbrev pub invariant-loop-child : goal.invariant-loop-child
invariant-loop-child l = l.out.items ++ flat_map (entries l.last) (drop l.child-index l.child-items) ≡ l.fn.out.items ++ map (earliest_of l.last) (helds_of l.self)
