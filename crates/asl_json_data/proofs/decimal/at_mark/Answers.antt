use Rattle.std.proofs.Common.{sym, ◌∙◌, arith}
use Rattle.std.proofs.lemmas.List.{take_rest}
use Rattle.asl_json_data.specs.Number.{is_mark}
use Rattle.asl_json_data.proofs.Figures.{lacks_more, before_at, behind_at, before_none, behind_none}
use Rattle.asl_json_data.proofs.decimal.at_mark.Goals as goal

pub returns-then-is_mark-clause-before : goal.returns-then-is_mark-clause-before
returns-then-is_mark-clause-before c = sym (before_at is_mark c.args.text.now c.loop-end.end c.loop-end-test.true c.loop-end.invariant.0 (sym c.is_mark.ensures ∙ c.if-is_mark.true))

pub returns-then-is_mark-clause-behind : goal.returns-then-is_mark-clause-behind
returns-then-is_mark-clause-behind c = rw take_rest (sym (behind_at is_mark c.args.text.now c.loop-end.end c.loop-end-test.true c.loop-end.invariant.0 (sym c.is_mark.ensures ∙ c.if-is_mark.true)))

pub loop-end-preserved : goal.loop-end-preserved
loop-end-preserved c = (lacks_more is_mark c.args.text.now c.loop-end.end c.loop-end-test.true c.loop-end.invariant.0 (sym c.is_mark.ensures ∙ c.if-is_mark.false), omega arith)

pub returns-clause-before : goal.returns-clause-before
returns-clause-before c = sym (before_none is_mark c.args.text.now c.loop-end.end c.loop-end-test.false c.loop-end.invariant.0)

pub returns-clause-behind : goal.returns-clause-behind
returns-clause-behind c = rw take_rest (sym (behind_none is_mark c.args.text.now c.loop-end.end c.loop-end-test.false c.loop-end.invariant.0))
