use Rattle.std.proofs.Common.{◌≡◌, ◌<◌, ◌≤◌, ℕ, Some, get_or, length}
use Rattle.asl_run_state.specs.World.{count_of}
use Rattle.asl_explore.specs.declared.sights.Sight.{Sight}
use Rattle.asl_explore.specs.private.Seeing.{noted}
use Rattle.asl_explore.proofs.sights.note.Given as goal

-- those of the numbers so far are noted, and the others are as they were
abbrev pub invariant-loop-number : goal.invariant-loop-number
invariant-loop-number l = record {
  many : length l.sights.items ≡ length l.fn.sights.items;
  done : (n : ℕ) (d : Sight) → n < l.number → n < length l.sights.items → get_or l.sights.items n d ≡ noted n l.looks (count_of l.world.counts (Some n)) (get_or l.fn.sights.items n d);
  left : (n : ℕ) (d : Sight) → l.number ≤ n → get_or l.sights.items n d ≡ get_or l.fn.sights.items n d;
}
