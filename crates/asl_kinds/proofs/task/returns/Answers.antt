use Rattle.std.proofs.Common.{codes, refl}
use Rattle.asl_json.specs.Meaning.{value_in}
use Rattle.asl_def_shared.specs.Member.{completion_object}
use Rattle.asl_step.specs.Context.{context_of}
use Rattle.asl_step.specs.Seen.{seen}
use Rattle.asl_kinds.specs.Members.{selected_by}
use Rattle.asl_kinds.proofs.task.returns.Goals as goal

pub returns-clause-effect : goal.returns-clause-effect
returns-clause-effect c =
    let parts = completion_object c.completion-completion.result.now in
    let gives = c.settled.ensures (selected_by (value_in (codes "ResultSelector") parts) (value_in (codes "ResultPath") parts) (value_in (codes "OutputPath") parts) c.args.input.now (context_of c.args.context.now.facts (seen c.args.visit.now)) c.in_ok-value.value) c.selected-given.ensures.given in
    rw (
      c.completion-completion.ensures (codes "Retry") refl,
      c.completion-completion.ensures (codes "Catch") refl,
      c.completion-completion.ensures (codes "Next") refl,
      c.completion-completion.ensures (codes "ResultSelector") refl,
      c.completion-completion.ensures (codes "ResultPath") refl,
      c.completion-completion.ensures (codes "OutputPath") refl,
      c.in_ok-done.ensures,
      c.in_ok-told.ensures,
      c.in_ok-value.ensures,
    ) at gives
