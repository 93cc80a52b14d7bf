use Rattle.std.proofs.Common.{◌≡◌, length, []}
use Rattle.std.specs.Prelude.{None}
use Rattle.std.specs.Str.{IsUtf8}
use Rattle.asl_rules.specs.private.Parts.{no_parts}
use Rattle.asl_rules.specs.private.Steps.{between, operand, context, run}
use Rattle.asl_rules.specs.private.Hears.{heard}
use Rattle.asl_rules.proofs.reading.formula.Given as goal

abbrev pub invariant-loop-on : goal.invariant-loop-on
invariant-loop-on l = (run l.tasks (between operand) (context [] no_parts None) l.text ≡ heard l.tasks l.reader) × IsUtf8 l.reader.rest.now

abbrev pub decreases-loop-on : goal.decreases-loop-on
decreases-loop-on l = length l.reader.rest.now
