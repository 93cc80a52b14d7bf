use Rattle.std.proofs.Common.{◌∙◌, ◌≤◌, ◌<◌, suc, length, sym, arith}
use Rattle.std.specs.Prelude.{map}
use Rattle.asl_json_data.specs.Data.{pairs, chain, items_depth, members_size}
use Rattle.asl_json.specs.Same.{equal_members}
use Rattle.asl_def_fields.proofs.Lists.{other_length, over, stops, goes_on}
use Rattle.asl_choice.specs.Rules.{condition_named, rule_object}
use Rattle.asl_choice.proofs.Within.{item_within}
use Rattle.asl_choice.proofs.Alike.{test_alike}
use Rattle.asl_choice.proofs.equal.+equal.Goals as goal

pub equals_condition-returns-in-Test-Test : goal.equals_condition-returns-in-Test-Test
equals_condition-returns-in-Test-Test t c =
    c.eq.ensures ∙ sym (test_alike c.in-Test-Test.x c.in-Test-Test.y)
    ∙ (λ i. equal_members (pairs (condition_named (sym c.in-Test-Test.is-0 i))) (pairs (condition_named (sym c.in-Test-Test.is-1 i))))

pub equals_rules-returns-then-len : goal.equals_rules-returns-then-len
equals_rules-returns-then-len t c = other_length rule_object rule_object c.args.a.now.items c.args.b.now.items (λ e. c.if-len.true (omega (arith, c.len.ensures, c.len-2.ensures, e)))

pub equals_rules-equals-requires : goal.equals_rules-equals-requires
equals_rules-equals-requires t c =
    let lx : c.loop-i.i < length c.args.a.now.items = omega (arith, c.loop-i-test.true, c.len-i-end.ensures) in
    let within : suc (members_size c.index.result.now) ≤ items_depth (chain (map rule_object c.args.a.now.items)) = item_within rule_object c.args.a.now.items c.loop-i.i c.index.result.now lx c.index.ensures in
    (omega (arith, within), tt)

pub equals_rules-returns-then-not-equals : goal.equals_rules-returns-then-not-equals
equals_rules-returns-then-not-equals t c =
    let lx : c.loop-i.i < length c.args.a.now.items = omega (arith, c.loop-i-test.true, c.len-i-end.ensures) in
    let ly : c.loop-i.i < length c.args.b.now.items = omega (arith, c.loop-i-test.true, c.len-i-end.ensures, c.len.ensures, c.len-2.ensures, c.if-len.false) in
    stops rule_object rule_object c.args.a.now.items c.args.b.now.items c.loop-i.i c.index.result.now c.index-in-loop-i.result.now _ lx ly c.index.ensures c.index-in-loop-i.ensures (sym c.equals.ensures ∙ c.if-not-equals.true) c.loop-i.invariant

pub equals_rules-loop-i-preserved : goal.equals_rules-loop-i-preserved
equals_rules-loop-i-preserved t c =
    let lx : c.loop-i.i < length c.args.a.now.items = omega (arith, c.loop-i-test.true, c.len-i-end.ensures) in
    let ly : c.loop-i.i < length c.args.b.now.items = omega (arith, c.loop-i-test.true, c.len-i-end.ensures, c.len.ensures, c.len-2.ensures, c.if-len.false) in
    goes_on rule_object rule_object c.args.a.now.items c.args.b.now.items c.loop-i.i c.index.result.now c.index-in-loop-i.result.now _ lx ly c.index.ensures c.index-in-loop-i.ensures (sym c.equals.ensures ∙ c.if-not-equals.false) c.loop-i.invariant

pub equals_rules-returns : goal.equals_rules-returns
equals_rules-returns t c =
    let end : length c.args.a.now.items ≤ c.loop-i.i = omega (arith, c.loop-i-test.false, c.len-i-end.ensures, c.loop-i.auto.i-end) in
    let other : length c.args.b.now.items ≤ c.loop-i.i = omega (arith, end, c.len.ensures, c.len-2.ensures, c.if-len.false) in
    sym (over rule_object rule_object c.args.a.now.items c.args.b.now.items c.loop-i.i end other) ∙ c.loop-i.invariant
