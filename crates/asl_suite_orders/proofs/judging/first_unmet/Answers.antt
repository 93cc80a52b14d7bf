use Rattle.std.proofs.Common.{rules, ◌∙◌, ap, sym, List}
use Rattle.std.specs.Prelude.{Some, None}
use Rattle.std.specs.Vec.Iter.{into_iter_items}
use Rattle.asl_run_input.specs.declared.step_at.StepAt.{StepAt}
use Rattle.asl_suite.specs.Orders.{order_report}
use Rattle.asl_suite.specs.Reports.{is_passed}
use Rattle.asl_suite.specs.declared.case_report.CaseReport.{CaseReport}
use Rattle.asl_suite_orders.specs.Judging.{with_other_counts}
use Rattle.asl_suite_orders.proofs.Passing.{passed-over, other-counts}
use Rattle.asl_suite_orders.proofs.judging.first_unmet.Goals as goal

pub returns-then-not-are_always : goal.returns-then-not-are_always
returns-then-not-are_always c =
    let report = c.in_ok-report.ensures ∙ ap (λ (l : List StepAt). order_report c.args.suite.now c.args.test.now l) c.deref.ensures.value in
    let good = ap is_passed (sym report) ∙ sym c.is_passed.ensures ∙ c.if-not-is_passed.false in
    ap (λ (r : CaseReport). Some (None, r)) (c.with_other_counts.ensures ∙ ap with_other_counts report)
    ∙ other-counts c.args.suite.now c.args.test.now c.args.calls.now c.loop-outcome.before c.in-Some.outcome (into_iter_items c.loop-outcome.outcome-iterator) (into_iter_items c.next.new.self) c.args.found.items c.in-Some.ensures.steps.0 good c.loop-outcome.invariant.left (sym c.are_always.ensures ∙ c.if-not-are_always.true)

pub loop-outcome-preserved : goal.loop-outcome-preserved
loop-outcome-preserved c =
    let report = c.in_ok-report.ensures ∙ ap (λ (l : List StepAt). order_report c.args.suite.now c.args.test.now l) c.deref.ensures.value in
    let good = ap is_passed (sym report) ∙ sym c.is_passed.ensures ∙ c.if-not-is_passed.false in
    record {
      left = passed-over c.args.suite.now c.args.test.now c.args.calls.now c.loop-outcome.before c.in-Some.outcome (into_iter_items c.loop-outcome.outcome-iterator) (into_iter_items c.next.new.self) c.args.found.items c.in-Some.ensures.steps.0 good c.loop-outcome.invariant.left (sym c.are_always.ensures ∙ c.if-not-are_always.false);
      so-many = search rules;
    }
