use Rattle.std.proofs.Common.{◌∙◌, ap, sym}
use Rattle.std.specs.Prelude.{List, ℕ}
use Rattle.asl_mock.specs.Tables.{named}
use Rattle.asl_mock.specs.Answers.{Case}
use Rattle.asl_mock.specs.Merged.{with_missing}
use Rattle.asl_mock.proofs.Missing.{over_more}
use Rattle.asl_mock.proofs.merging.with_all_missing.Goals as goal

pub loop-i-preserved : goal.loop-i-preserved
loop-i-preserved c =
    let all = over_more with_missing (named c.args.states.entries) c.args.others.now.entries c.loop-i.i (c.in-Some.name.now, c.in-Some.response.now) c.in-Some.ensures.entry in
    c.in_ok-states.ensures
    ∙ ap (λ (s : List ℕ). with_missing (named c.loop-i.states.entries) (s, c.in-Some.response.now)) c.as_str.ensures.value
    ∙ ap (λ (d : Case). with_missing d (Rattle.std.specs.Prelude.string_bytes c.in-Some.name.now, c.in-Some.response.now)) c.loop-i.invariant
    ∙ sym all
