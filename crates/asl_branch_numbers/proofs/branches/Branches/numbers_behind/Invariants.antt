use Rattle.std.proofs.Common.{◌<◌, length, take}
use Rattle.asl_branch_numbers.specs.Numbers.{branches_in, AreNumbers, IsBehind}
use Rattle.asl_branch_numbers.proofs.branches.Branches.numbers_behind.Given as goal

-- the numbers so far are those of the branches so far
abbrev pub invariant-loop-turn : goal.invariant-loop-turn
invariant-loop-turn l =
    (0 < length l.numbers → AreNumbers (branches_in l.self) l.numbers l.before.branches)
    → IsBehind l.stepped l.before l.world
    → AreNumbers (branches_in l.self) l.found.items (take l.turn-index l.world.branches)
