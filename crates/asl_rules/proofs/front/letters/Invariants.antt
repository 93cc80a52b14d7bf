use Rattle.std.proofs.Common.{◌≡◌, ◌≤◌, List, drop, length, true}
use Rattle.std.specs.Str.{IsUtf8}
use Rattle.asl_rules.specs.declared.atom.Task.{Task}
use Rattle.asl_rules.specs.private.Leads.{are_ascii}
use Rattle.asl_rules.specs.private.Steps.{Wants, Context, spelled, run}
use Rattle.asl_rules.proofs.front.letters.Given as goal

abbrev pub invariant-loop-letter : goal.invariant-loop-letter
invariant-loop-letter l = ((ts : List Task) (w : Wants) (k : Context) → run ts (spelled (drop l.letter-index l.expected) w) k l.rest ≡ run ts (spelled l.expected w) k l.bytes) × (are_ascii (drop l.letter-index l.expected) ≡ true) × IsUtf8 l.rest × (length l.rest ≤ length l.bytes)
