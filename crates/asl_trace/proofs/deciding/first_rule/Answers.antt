use Rattle.std.proofs.Common.{sym, true, false}
use Rattle.asl_json.specs.View.{data_of}
use Rattle.asl_trace.proofs.Ruling.{decides_none, decides_by}
use Rattle.asl_trace.proofs.deciding.first_rule.Goals as goal

pub returns-in_default : goal.returns-in_default
returns-in_default c = decides_none c.args.rules.now c.loop-number.number c.index-rules-number.result (data_of c.args.value.now) (data_of c.args.context.now) _ c.loop-number-test.true c.index-rules-number.is (rw c.in_default.is at c.verdict.ensures) c.loop-number.invariant

pub returns-then-holds : goal.returns-then-holds
returns-then-holds c = sym (decides_by c.args.rules.now c.loop-number.number c.index-rules-number.result (data_of c.args.value.now) (data_of c.args.context.now) _ true c.loop-number-test.true c.index-rules-number.is (rw c.if-holds.true at c.in-Some.ensures) c.loop-number.invariant)

pub loop-number-preserved : goal.loop-number-preserved
loop-number-preserved c = decides_by c.args.rules.now c.loop-number.number c.index-rules-number.result (data_of c.args.value.now) (data_of c.args.context.now) _ false c.loop-number-test.true c.index-rules-number.is (rw c.if-holds.false at c.in-Some.ensures) c.loop-number.invariant
