use Rattle.std.proofs.Common.{◌≡◌, map, take}
use Rattle.asl_run_branches.proofs.frame.records_of.Given as goal

abbrev pub invariant-loop-frame : goal.invariant-loop-frame
invariant-loop-frame l = map (λ r. r.now) l.records.items ≡ map (λ f. f.head.current) (take l.frame-index l.frames)
