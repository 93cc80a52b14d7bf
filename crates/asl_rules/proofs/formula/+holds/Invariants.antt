use Rattle.std.proofs.Common.{◌≡◌, drop}
use Rattle.asl_rules.specs.Tree.{all_of, any_of, formula}
use Rattle.asl_rules.specs.Truth.{formula_holds, any_holds, all_hold}
use Rattle.asl_rules.proofs.formula.+holds.Given as goal

abbrev pub invariant-AllOf::holds-loop-operand : goal.invariant-AllOf::holds-loop-operand
invariant-AllOf::holds-loop-operand l = all_hold l.case l.end.counts l.end.outcome (all_of (drop l.operand-index l.operand-items) l.self-inside.last) ≡ all_hold l.case l.end.counts l.end.outcome l.self

abbrev pub invariant-AnyOf::holds-loop-term : goal.invariant-AnyOf::holds-loop-term
invariant-AnyOf::holds-loop-term l = any_holds l.case l.end.counts l.end.outcome (any_of (drop l.term-index l.term-items) l.self-inside.last) ≡ any_holds l.case l.end.counts l.end.outcome l.self

abbrev pub invariant-Formula::holds-loop-premise : goal.invariant-Formula::holds-loop-premise
invariant-Formula::holds-loop-premise l = formula_holds l.case l.end.counts l.end.outcome (formula (drop l.premise-index l.premise-items) l.self-inside.conclusion) ≡ formula_holds l.case l.end.counts l.end.outcome l.self
