use Rattle.std.proofs.Common.{ap, subst, sym, ◌∙◌, ◌≡◌, Bool}
use Rattle.asl_json_data.specs.Data.{Data}
use Rattle.asl_json.specs.View.{data_of}
use Rattle.asl_def_states.specs.Choosing.{chosen_next}
use Rattle.asl_def_states.specs.Show.{choice_object}
use Rattle.asl_step.specs.Context.{context_of}
use Rattle.asl_step.specs.Seen.{seen}
use Rattle.asl_step_io.specs.Reason.{GivenText}
use Rattle.asl_trace_data.specs.Kinds.{is_found}
use Rattle.asl_trace_data.proofs.Failing.{decided_by}
use Rattle.asl_trace_data.proofs.choosing.finds.Goals as goal

pub returns-clause-found : goal.returns-clause-found
returns-clause-found c =
    let told = decided_by (choice_object c.args.choice.now) (data_of c.args.value.now) (context_of c.args.context.now.facts (seen c.args.visit.now)) c.choices.result.now _ c.choices.ensures (c.next-next.ensures ∙ ap (λ (z : Data). chosen_next c.choices.result.now (data_of c.args.value.now) z) (ap data_of c.shown.ensures ∙ c.in_ok-show.ensures.shown)) in
    (rw c.default.ensures at c.is_found.ensures) ∙ ap is_found (sym told)
