use Rattle.std.proofs.Common.{◌∙◌, rules, tests}
use Rattle.std.proofs.lemmas.Iterator.{YieldsList-from_slice}
use Rattle.std.proofs.lemmas.Iterator.Consumers.{YieldsList-from_filter, count_from_yields_List}
use Rattle.std.proofs.lemmas.List.Sums.{length-filter}
use Rattle.asl_suite.specs.Reports.{is_passed}
use Rattle.asl_suite.proofs.reporting.passed.Goals as goal

pub returns : goal.returns
returns c =
    count_from_yields_List _ c.count.result c.count.ensures.ran
    (YieldsList-from_filter _ is_passed (YieldsList-from_slice c.args.reports.now cc) c.filter.ensures.closure (λ x r q k. search (rules, tests)))
    ∙ length-filter is_passed c.args.reports.now
