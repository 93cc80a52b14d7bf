use Rattle.std.proofs.Common.{◌≡◌, ◌++◌, take}
use Rattle.asl_explore.specs.Remarks.{answers_from}
use Rattle.asl_explore.proofs.remarking.put_answers.Given as goal

-- those of the runs so far are put
abbrev pub invariant-loop-run : goal.invariant-loop-run
invariant-loop-run l = l.out.items ≡ l.fn.out.items ++ answers_from l.name l.number (take l.run-index l.runs)
