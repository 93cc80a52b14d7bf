use Rattle.std.proofs.Common.{◌∙◌, ap, sym}
use Rattle.asl_mock.specs.Tables.{named}
use Rattle.asl_mock.specs.Answers.{Case}
use Rattle.asl_mock.specs.Merged.{merged, merged_with_named}
use Rattle.asl_mock.proofs.Missing.{over_more}
use Rattle.asl_mock.proofs.merging.with_each_case.Goals as goal

pub loop-i-preserved : goal.loop-i-preserved
loop-i-preserved c =
    let all = over_more merged_with_named (named c.args.states.entries) c.args.others.now.entries c.loop-i.i (c.in-Some.field-0-0.now, c.in-Some.case.now) c.in-Some.ensures.entry in
    c.in_ok-states.ensures
    ∙ ap (λ (d : Case). merged d c.in-Some.case.now) c.loop-i.invariant
    ∙ sym all
