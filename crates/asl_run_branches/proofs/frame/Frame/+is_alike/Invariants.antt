use Rattle.std.proofs.Common.{◌≡◌, take}
use Rattle.asl_run_branches.proofs.Reading.{flat}
use Rattle.asl_run_branches.proofs.frame.Frame.+is_alike.Given as goal

-- the branches of the children so far are the same
abbrev pub invariant-loop-number : goal.invariant-loop-number
invariant-loop-number l = flat 0 (take l.number l.self-inside.children.items) ≡ flat 0 (take l.number l.other-inside.children.items)
