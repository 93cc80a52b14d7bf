use Rattle.std.specs.Prelude.{option_map}
use Rattle.asl_def_states.specs.Show.{task_object}
use Rattle.asl_step.specs.Context.{context_of}
use Rattle.asl_step.specs.Seen.{seen}
use Rattle.asl_kinds.specs.private.Laws.{IsInvoked, invoked-is, answered-lawful, fits_as}
use Rattle.asl_kinds.proofs.task.TaskStateKind.visit.Goals as goal

pub returns-in_ok-done-in-Ok-clause-fits : goal.returns-in_ok-done-in-Ok-clause-fits
returns-in_ok-done-in-Ok-clause-fits c =
    let is : IsInvoked c.in_ok-done-in-Ok.done = rw (c.in_ok-done-in-Ok.ensures, c.in_ok-done.ensures) (invoked-is (seen c.args.visit.now) c.in-Some.input.now c.in-Ok.value) in
    fits_as c.answered.result _ c.answered.ensures.effect (answered-lawful (task_object c.args.self.now) (context_of c.effective.new.context.facts (seen c.args.visit.now)) (seen c.args.visit.now) _ c.in-Some.input.now (option_map (λ a. a.now) c.answer-answer.result) is).fits
