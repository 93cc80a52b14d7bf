use Rattle.std.proofs.Common.{◌≡◌, false, take}
use Rattle.std.specs.List.{list_any}
use Rattle.asl_explore.specs.private.Seeing.{look_enters}
use Rattle.asl_explore.proofs.sights.is_entered.Given as goal

-- none so far enters it
abbrev pub invariant-loop-look : goal.invariant-loop-look
invariant-loop-look l = list_any (look_enters l.number) (take l.look-index l.looks) ≡ false
