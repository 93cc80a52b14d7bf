use Rattle.std.proofs.Common.{◌∙◌, List, ap}
use Rattle.asl_def_states.specs.Show.{state_of}
use Rattle.asl_step.specs.declared.facts.Facts.{Facts}
use Rattle.asl_step.specs.Seen.{seen}
use Rattle.asl_trace_data.specs.declared.stage.Stage.{Stage}
use Rattle.asl_trace.specs.Deciding.{deciding_with}
use Rattle.asl_trace.proofs.Happening.{deciding_wanted}
use Rattle.asl_trace.proofs.deciding.by_state.Goals as goal

pub returns-clause-deciding : goal.returns-clause-deciding
returns-clause-deciding c t =
    let d = state_of t c.args.state.now in
    let v = seen c.args.visit.now in
    let f = c.args.context.now.facts in
    c.in_ok-deciding.ensures.deciding t
    ∙ ap (λ (g : Facts). deciding_with d g v c.deref.result.now) c.wanted_of.ensures.facts
    ∙ ap (λ (ss : List Stage). deciding_with d f v ss) (c.deref.ensures.value ∙ c.in_ok-stages.ensures.stages t)
    ∙ deciding_wanted c.args.staged d f v
