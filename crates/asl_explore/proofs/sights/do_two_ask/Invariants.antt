use Rattle.std.proofs.Common.{◌≡◌, cond, count_by, take}
use Rattle.asl_explore.specs.private.Seeing.{look_asks}
use Rattle.asl_explore.proofs.sights.do_two_ask.Given as goal

-- one so far asks, or none
abbrev pub invariant-loop-look : goal.invariant-loop-look
invariant-loop-look l = count_by (look_asks l.number) (take l.look-index l.looks) ≡ cond l.one 1 0
