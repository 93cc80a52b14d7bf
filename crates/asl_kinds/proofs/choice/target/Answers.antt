use Rattle.std.proofs.Common.{ap, subst, sym, ◌∙◌}
use Rattle.asl_json_data.specs.Data.{Data}
use Rattle.asl_json.specs.View.{data_of}
use Rattle.asl_def_states.specs.Choosing.{chosen_next}
use Rattle.asl_def_states.specs.Show.{choice_object}
use Rattle.asl_step.specs.Context.{context_of}
use Rattle.asl_step.specs.Seen.{seen}
use Rattle.asl_step_io.specs.Gives.{GivesSeen}
use Rattle.asl_step_io.specs.Reason.{GivenText}
use Rattle.asl_kinds.proofs.Choosing.{decided_by}
use Rattle.asl_kinds.proofs.choice.target.Goals as goal

pub returns-clause-given : goal.returns-clause-given
returns-clause-given c =
    let told = decided_by (choice_object c.args.choice.now) (data_of c.args.value.now) (context_of c.args.context.now.facts (seen c.args.visit.now)) c.choices.result.now _ c.choices.ensures (c.next-next.ensures ∙ ap (λ (z : Data). chosen_next c.choices.result.now (data_of c.args.value.now) z) (ap data_of c.shown.ensures ∙ c.in_ok-show.ensures.shown)) in
    subst (λ (g : GivenText). GivesSeen (λ t. t.now) g c.target_by.result) (sym told) (rw c.default.ensures at c.target_by.ensures)
