use Rattle.std.proofs.Common.{◌≡◌, ◌<◌, List, length}
use Rattle.std.specs.Str.{IsUtf8}
use Rattle.asl_rules.specs.declared.atom.Task.{Task}
use Rattle.asl_rules.specs.private.Steps.{Context, between, count, figure, run}
use Rattle.asl_rules.proofs.front.count.Given as goal

abbrev pub invariant-loop-next : goal.invariant-loop-next
invariant-loop-next l = ((ts : List Task) (t : Task) (k : Context) → run ts (between (count t)) k l.bytes ≡ run ts (figure t l.number) k l.rest) × IsUtf8 l.rest × (length l.rest < length l.bytes)

abbrev pub decreases-loop-next : goal.decreases-loop-next
decreases-loop-next l = length l.rest
