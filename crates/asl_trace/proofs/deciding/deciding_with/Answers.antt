use Rattle.std.proofs.Common.{◌∙◌, ap}
use Rattle.asl_def_states.specs.Show.{state_of}
use Rattle.asl_step.specs.Seen.{seen}
use Rattle.asl_trace.specs.Deciding.{by_error}
use Rattle.asl_trace.proofs.AnyTable.{other_kind}
use Rattle.asl_trace.proofs.Happening.{by_other}
use Rattle.asl_trace.proofs.deciding.deciding_with.Goals as goal

pub returns-in-Choice-clause-deciding : goal.returns-in-Choice-clause-deciding
returns-in-Choice-clause-deciding c t = rw c.in-Choice.is c.by_rules.ensures.deciding

pub returns-in_default-clause-deciding : goal.returns-in_default-clause-deciding
returns-in_default-clause-deciding c t =
    let d = state_of t c.args.state.now in
    let v = seen c.args.visit.now in
    c.by_error.ensures t ∙ ap (by_error d v) (c.raised_by.ensures t) ∙ by_other d c.args.context.now.facts v c.args.stages.now (other_kind t c.args.state.now c.in_default.not-Choice)
