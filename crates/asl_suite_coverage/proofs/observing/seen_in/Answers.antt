use Rattle.std.proofs.Common.{◌++◌, ◌∙◌, ap}
use Rattle.std.specs.Prelude.{option_map}
use Rattle.asl_json.specs.View.{data_of}
use Rattle.asl_suite_coverage.specs.Answers.{case_in}
use Rattle.asl_suite_coverage.specs.Covered.{spots_by}
use Rattle.asl_suite_coverage.proofs.observing.seen_in.Goals as goal

pub returns : goal.returns
returns c =
    let m = data_of c.args.mocks.now in
    let case = c.case_in-case.ensures ∙ ap (λ t. case_in m t c.args.case.now) c.as_str.ensures in
    c.in_ok-add_by.ensures
    ∙ (λ i. c.new-seen.ensures.items i ++ spots_by m (case i) (c.in_ok-context.ensures i) (c.in_ok-execution.ensures.setup i) (c.in_ok-execution.ensures.world i) (option_map (λ s. s.now) c.args.steps))
