use Rattle.std.proofs.Common.{◌∙◌, sym}
use Rattle.std.specs.Cmp.Lexicographic.{same_text}
use Rattle.asl_choice.proofs.Names.{named_in}
use Rattle.asl_choice.proofs.operator.RuleKind.named.Goals as goal

pub returns-then-eq-clause-found : goal.returns-then-eq-clause-found
returns-then-eq-clause-found c = named_in c.rule_kinds-rows.result.now c.loop-row.row-index _ c.rule_kinds-rows.ensures.named c.loop-row-test.true ∙ sym (same_text c.args.name.now _ c.if-eq.ensures)
