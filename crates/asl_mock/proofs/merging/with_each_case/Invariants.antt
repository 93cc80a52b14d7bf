use Rattle.std.proofs.Common.{◌≡◌, take}
use Rattle.asl_mock.specs.Tables.{named}
use Rattle.asl_mock.specs.Merged.{merged_with_each}
use Rattle.asl_mock.proofs.merging.with_each_case.Given as goal

abbrev pub invariant-loop-i : goal.invariant-loop-i
invariant-loop-i l =
    named l.states.entries ≡ merged_with_each (named l.fn.states.entries) (take l.i (named l.others.entries))
