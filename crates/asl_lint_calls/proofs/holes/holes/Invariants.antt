use Rattle.std.proofs.Common.{◌≡◌, ◌+◌, ◌≤◌, length}
use Rattle.std.specs.Str.{IsUtf8, chars}
use Rattle.asl_lint_calls.specs.Known.{holes}
use Rattle.asl_lint_calls.specs.private.Looks.{holes_from}
use Rattle.asl_lint_calls.proofs.holes.holes.Given as goal

abbrev pub invariant-loop-character : goal.invariant-loop-character
invariant-loop-character l = (l.places + holes_from l.look (chars l.rest) ≡ holes l.template) × (l.places + length l.rest ≤ length l.template) × IsUtf8 l.rest

abbrev pub decreases-loop-character : goal.decreases-loop-character
decreases-loop-character l = length l.rest
