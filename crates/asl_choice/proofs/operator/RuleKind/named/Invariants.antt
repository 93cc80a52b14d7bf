use Rattle.std.proofs.Common.{◌≡◌, drop}
use Rattle.asl_def_schema.specs.Members.{is_among}
use Rattle.asl_choice.specs.Rules.{written}
use Rattle.asl_choice.proofs.operator.RuleKind.named.Given as goal

abbrev pub invariant-loop-row : goal.invariant-loop-row
invariant-loop-row l = is_among l.name (written l.rows) ≡ is_among l.name (written (drop l.row-index l.rows))
