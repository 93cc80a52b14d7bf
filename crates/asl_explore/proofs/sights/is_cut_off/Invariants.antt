use Rattle.std.proofs.Common.{◌≡◌, false, take}
use Rattle.std.specs.List.{list_any}
use Rattle.asl_explore.specs.private.Seeing.{look_stops}
use Rattle.asl_explore.proofs.sights.is_cut_off.Given as goal

-- none so far is stopped inside it
abbrev pub invariant-loop-look : goal.invariant-loop-look
invariant-loop-look l = list_any (look_stops l.number) (take l.look-index l.looks) ≡ false
