use Rattle.std.proofs.Common.{◌≡◌, ◌++◌, List, ap, sym, ◌∙◌}
use Rattle.asl_json.specs.View.{data_of}
use Rattle.asl_def_states.specs.Show.{choice_object}
use Rattle.asl_step.specs.Context.{context_of}
use Rattle.asl_step.specs.Seen.{seen}
use Rattle.asl_trace_data.specs.declared.part.Part.TheVariants.{Choices}
use Rattle.asl_trace_data.specs.declared.stage.Stage.{Stage}
use Rattle.asl_trace_data.specs.Stages.{failing_stage}
use Rattle.asl_trace_data.proofs.Failing.{choice_fails, choice_found, choice_none}
use Rattle.asl_trace_data.proofs.choosing.add_target.Goals as goal

pub returns-then-branch-clause-stages : goal.returns-then-branch-clause-stages
returns-then-branch-clause-stages c =
    let found = sym (rw c.deref.ensures at c.in_ok-finds.ensures.found) ∙ c.if-branch.true in
    let told = rw (c.output_path-path.ensures, c.finds.ensures.facts) at c.add_taken.ensures.stages in
    rw (choice_found (choice_object c.args.choice.now) (data_of c.args.value.now) c.args.value.now (context_of c.args.context.now.facts (seen c.args.visit.now)) found) told

pub returns-clause-stages : goal.returns-clause-stages
returns-clause-stages c =
    let unfound = sym (rw c.deref.ensures at c.in_ok-finds.ensures.found) ∙ c.if-branch.false in
    let raised = rw c.finds.ensures.facts at c.in_ok-error.ensures.error in
    let fails = choice_fails (choice_object c.args.choice.now) c.args.context.now.facts (seen c.args.visit.now) c.args.input.now c.args.value.now c.requires.entering c.requires.taken unfound in
    c.in_ok-add_error.ensures ∙ ap (λ (ss : List Stage). c.args.out.now.items ++ ss) (ap (failing_stage Choices) raised ∙ fails)

pub returns-clause-value : goal.returns-clause-value
returns-clause-value c =
    let unfound = sym (rw c.deref.ensures at c.in_ok-finds.ensures.found) ∙ c.if-branch.false in
    sym (choice_none (choice_object c.args.choice.now) c.args.input.now c.args.value.now (context_of c.args.context.now.facts (seen c.args.visit.now)) c.requires.taken unfound)
