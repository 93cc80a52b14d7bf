use Rattle.std.proofs.Common.{codes}
use Rattle.asl_json.specs.Meaning.{value_in}
use Rattle.asl_def_shared.specs.Member.{completion_object}
use Rattle.asl_step.specs.Context.{context_of}
use Rattle.asl_step.specs.Seen.{seen}
use Rattle.asl_kinds.specs.Members.{selected_by}
use Rattle.asl_kinds.proofs.joining.branches_end.Goals as goal

pub returns-clause-effect : goal.returns-clause-effect
returns-clause-effect c =
    let parts = completion_object c.args.completion.now in
    let gives = c.settled.ensures (selected_by (value_in (codes "ResultSelector") parts) (value_in (codes "ResultPath") parts) (value_in (codes "OutputPath") parts) c.args.input.now (context_of c.args.context.now.facts (seen c.args.visit.now)) c.in_ok-outputs.outputs) c.selected-given.ensures.given in
    rw (c.in_ok-done.ensures, c.gathered.ensures, c.in_ok-empty_object.ensures, c.in_ok-outputs.ensures.ok) at gives
